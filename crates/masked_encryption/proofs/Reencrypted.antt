-- Stage 6 from the outcomes of the passes on each share.
use mathlib.Core.Path.{◌≡◌, refl, sym, ap, ap₂, ◌∙◌}
use mathlib.Core.List.{List, ◌++◌}
use Prim.Native.Nat.{ℕ, ◌+◌, ◌*◌, ◌<◌}
use native.Mathlib.Decide.{dec_lt}
use native.Mathlib.Omega.{arith}
use borrow.Author.Tests.{lt-ltb, le-ltb}
use lib.ListN.{take, drop}
use lib.Seq.{take_all, drop_at}
use Rattle.words.specs.Part.{part_append, part_fits}
use Rattle.words.specs.TabLaws.{get_or-tab}
use Rattle.codec.specs.Bytes.{byte_decode12}
use Rattle.transform.specs.Transform.{ntt}
use Rattle.worksheet.specs.declared.Recorder.{Recorder}
use Rattle.worksheet.specs.Pass.{enter_both}
use Rattle.worksheet.specs.Prog.{times}
use Rattle.worksheet.specs.ProgLaws.{times_cong}
use Rattle.worksheet.specs.Ran.{Makes}
use Rattle.worksheet.specs.SharedList.{SharedList, shared_list}
use Rattle.parameters.specs.declared.Parameters.{Parameters}
use Rattle.parameters.specs.Lengths.{vector_bytes}
use Rattle.vectors.specs.Vector.{parts, concat}
use Rattle.vectors.specs.VectorLaws.{Each, length-concat, parts-concat}
use Rattle.kpke.specs.KPke.{matrix}
use Rattle.kpke.specs.Expanded.{places_of, Expanded}
use Rattle.kpke.proofs.Parts.{decoded_at}
use Rattle.stages.specs.Moves.{nothing, shares0, shares1}
use Rattle.stages.specs.Worksheet.{u_share, v_share, uv_share, stage6}
use Rattle.stages.specs.Layout.{part_of, parts_by, polynomials}
use Rattle.stages.proofs.StoredRun.{ran_as}
use Rattle.masked_encryption_passes.specs.Passes.{u_pass, v_pass, uv_pass}
use Rattle.masked_encryption_passes.proofs.PassLaws.{length-u_pass, length-v_pass, u_pass_cong, v_pass_cong}

-- one share of polynomial i of k
module _ (k : ℕ) (z : SharedList) (i : ℕ) (h : i < k) where
  shares0_at : shares0 (polynomials k z) i ≡ parts 256 z.s0 i
  unfolding parts_by
  shares0_at = ap (λ (s : SharedList). s.s0) (get_or-tab k (λ j. part_of 256 z j) i nothing h)

  shares1_at : shares1 (polynomials k z) i ≡ parts 256 z.s1 i
  unfolding parts_by
  shares1_at = ap (λ (s : SharedList). s.s1) (get_or-tab k (λ j. part_of 256 z j) i nothing h)

module _ (p : Parameters) (ek : List ℕ) {a t : List ℕ} (x : Expanded p.k (drop (vector_bytes p) ek) a)
    (g : t ≡ concat p.k (λ i. byte_decode12 (parts 384 (take (vector_bytes p) ek) i))) where
  -- what the passes on one share make of the noise n
  abbrev uv_of : List ℕ → List ℕ → List ℕ
  uv_of n mu = uv_pass p.k (places_of p.k a) (parts 256 t) (parts 256 n) mu

  -- polynomial i of it, where N are n's polynomials
  module _ (n mu : List ℕ) {N : ℕ → List ℕ} (r : (j : ℕ) → j < 2 * p.k + 1 → N j ≡ parts 256 n j) where
    ys : (j : ℕ) → j < p.k → ntt (parts 256 n j) ≡ ntt (N j)
    ys j h = ap ntt (sym (r j (omega arith)))

    us : Each 256 p.k (λ i. u_pass p.k (places_of p.k a) (λ j. ntt (parts 256 n j)) (parts 256 n (p.k + i)) i)
    us = record { long = λ i h. length-u_pass p.k _ (places_of p.k a) _ i }

    abbrev u : List ℕ
    u = concat p.k (λ i. u_pass p.k (places_of p.k a) (λ j. ntt (parts 256 n j)) (parts 256 n (p.k + i)) i)

    abbrev v : List ℕ
    v = v_pass p.k (parts 256 t) (λ j. ntt (parts 256 n j)) (parts 256 n (2 * p.k)) mu

    u_at : (i : ℕ) → i < p.k → parts 256 u i ≡ u_share p ek N i
    unfolding u_share u_pass
    u_at i h =
        parts-concat us i h
        ∙ u_pass_cong p.k ys (places_of p.k a) (matrix (drop (vector_bytes p) ek)) i (λ j m. x.at j i m h)
        (sym (r (p.k + i) (omega arith)))

    v_at : v ≡ v_share p ek N mu
    unfolding v_share v_pass
    v_at = v_pass_cong p.k ys mu (decoded_at p.k ek g) (sym (r (2 * p.k) (omega arith)))

    uv_at : (i : ℕ) → i < p.k + 1 → parts 256 (uv_of n mu) i ≡ uv_share p ek N mu i
    unfolding uv_pass
    uv_at i l = go (dec_lt i p.k)
      where
        go : Dec (i < p.k) → parts 256 (u ++ v) i ≡ uv_share p ek N mu i
        go (yes h) =
            rw (lt-ltb i p.k h)
            (part_append (256 * i) 256 u v (omega (arith, part_fits 256 h, length-concat us)) ∙ u_at i h)
        go (no h) =
            let e : i ≡ p.k = omega arith in
            rw (le-ltb i p.k (omega arith))
            (ap (λ (j : ℕ). parts 256 (u ++ v) j) e
            ∙ ap (take 256) (drop_at u v (256 * p.k) (length-concat us))
            ∙ take_all 256 v
            (omega (arith, length-v_pass p.k (λ j. ntt (parts 256 n j)) (parts 256 t) (parts 256 n (2 * p.k)) mu))
            ∙ v_at)

  pub stage6_of_lem : (n mu : SharedList) {u₀ u₁ : List ℕ} {r r' : Recorder}
      → u₀ ≡ uv_of n.s0 mu.s0 → u₁ ≡ uv_of n.s1 mu.s1
      → Makes (times (p.k + 1) (λ i. enter_both 256 (parts 256 u₀ i) (parts 256 u₁ i)))
      r (polynomials (p.k + 1) (shared_list u₀ u₁)) r'
      → Makes (stage6 p ek (polynomials (2 * p.k + 1) n) mu) r (polynomials (p.k + 1) (shared_list u₀ u₁)) r'
  unfolding stage6
  stage6_of_lem n mu e₀ e₁ m ws cs =
      ran_as
      (times_cong (p.k + 1) (λ i h.
      ap₂ (enter_both 256)
      (ap (λ (l : List ℕ). parts 256 l i) e₀ ∙ uv_at n.s0 mu.s0 (shares0_at (2 * p.k + 1) n) i h)
      (ap (λ (l : List ℕ). parts 256 l i) e₁ ∙ uv_at n.s1 mu.s1 (shares1_at (2 * p.k + 1) n) i h)))
      refl (m ws cs)
