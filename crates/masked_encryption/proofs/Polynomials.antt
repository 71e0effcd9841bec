-- Compression group by group, as compression of whole polynomials: its masks, its planes and its programs.
use mathlib.Core.Path.{◌≡◌, refl, sym, ap, ◌∙◌}
use mathlib.Core.List.{List, ◌++◌, flatten}
use Prim.Native.Nat.{ℕ, ◌+◌, ◌-◌, ◌*◌}
use native.Mathlib.Nat.{mul_comm, mul_left_comm}
use native.Mathlib.Omega.{arith}
use lib.ListN.{length, get_or, take, drop}
use Rattle.worksheet.specs.declared.Recorder.{Recorder}
use Rattle.worksheet.specs.Shares.{Shares}
use Rattle.worksheet.specs.Prog.{Prog, ret, ◌>>=◌, times}
use Rattle.worksheet.specs.ProgLaws.{times_cong}
use Rattle.worksheet.specs.Ran.{Ran, bind, over}
use Rattle.worksheet.specs.SharedList.{SharedList, shared_list, shared_at}
use Rattle.worksheet.specs.Zip.{zip}
use Rattle.masked_compression.specs.Compression.{masked_compress}
use Rattle.parameters.specs.declared.Parameters.{Parameters}
use Rattle.stages.specs.Moves.{nothing}
use Rattle.stages.specs.Layout.{parts_by, polynomials}
use Rattle.stages.specs.Worksheet.{compress_poly, stage7}
use Rattle.stages.specs.Counts.{compress_poly_words, stage7_words}
use Rattle.stages.proofs.Laid.{front_polynomial, last_polynomial, flatten_zips}
use Rattle.stages.proofs.StoredRun.{ran_as}
use Rattle.masked_polynomials.proofs.Compressed.{group_of}
use Rattle.masked_encryption.specs.Encryption.{compress_polys}
use Rattle.masked_encryption.proofs.Groups.{bind_map, times_bundles}
use Rattle.stages.proofs.Strips.{part_from}

-- n words for each of the groups of k polynomials
pub group_words : (n k : ℕ) → n * (4 * k) ≡ k * (4 * n)
group_words n k = mul_left_comm n 4 k ∙ ap (λ (x : ℕ). 4 * x) (mul_comm n k) ∙ sym (mul_left_comm k 4 n)

pub group_masks : (d k : ℕ) → (3 * d + 38) * (4 * k) ≡ k * compress_poly_words d
unfolding compress_poly_words
group_masks d k =
    let e : 3 * (d + 13) - 1 ≡ 3 * d + 38 = omega arith in
    rw e (group_words (3 * d + 38) k)

-- the groups of k polynomials are those of each
pub groups_of : (d k : ℕ) (f : SharedList)
    → (times (4 * k) (λ g. masked_compress d (λ i. shared_at f (64 * g + i))) >>= λ w. ret (flatten w))
    ≡ compress_polys d k f
unfolding compress_polys compress_poly
groups_of d k f =
    sym (times_bundles 4 (λ g. masked_compress d (λ i. shared_at f (64 * g + i))) k)
    ∙ ap (λ p. p >>= λ w. ret (flatten w))
    (times_cong k (λ i h. ap (λ p. p >>= λ w. ret (flatten w)) (times_cong 4 (λ j l. group_of d i j f l))))

-- the first k of k + 1 polynomials, lent as a part
front_polys : (d k : ℕ) (z : SharedList)
    → compress_polys d k (shared_list (take (256 * k) z.s0) (take (256 * k) z.s1))
    ≡ (times k (λ i. compress_poly d (get_or (polynomials (k + 1) z) i nothing)) >>= λ u. ret (flatten u))
unfolding compress_polys
front_polys d k z =
    ap (λ p. p >>= λ u. ret (flatten u))
    (times_cong k (λ i h. ap (compress_poly d) (front_polynomial k (k + 1) z i h (omega arith))))

-- ---- stage 7 on the coefficients l and m, where v, the last polynomial, draws the masks from i on and makes y

-- the last polynomial, lent as a part
abbrev last : ℕ → List ℕ → List ℕ
last k l = take (length l - 256 * k) (drop (256 * k) l)

module _ (p : Parameters) (l m : List ℕ) (long0 : length l ≡ 256 * (p.k + 1)) (long1 : length m ≡ 256 * (p.k + 1))
    (ws : List ℕ) (y : SharedList) {i : ℕ} (from : i ≡ p.k * compress_poly_words p.du) where
  -- v, as the definition and as its groups
  abbrev v : Prog (List Shares)
  v = compress_poly p.dv (get_or (polynomials (p.k + 1) (shared_list l m)) p.k nothing)

  abbrev GroupsRan : Recorder → List ℕ → Recorder → Type 0
  GroupsRan r cs r' =
      let f = shared_list (last p.k l) (last p.k m) in
      let rest = take (length ws - i) (drop i ws) in
      Ran (times 4 (λ g. masked_compress p.dv (λ t. shared_at f (64 * g + t)))) r rest cs
      (parts_by (zip p.dv) p.dv 4 y) r' (drop ((3 * p.dv + 38) * 4) rest) cs

  v-ran : {r r' : Recorder} {cs : List ℕ} → GroupsRan r cs r'
      → Ran v r (drop (p.k * compress_poly_words p.du) ws) cs (zip (4 * p.dv) y) r' (drop (stage7_words p) ws) cs
  unfolding compress_poly stage7_words
  v-ran h =
      let count : (3 * p.dv + 38) * 4 ≡ compress_poly_words p.dv = omega (arith, group_masks p.dv 1) in
      let words : p.dv * 4 ≡ 4 * p.dv = omega arith in
      ran_as (ap (compress_poly p.dv) (last_polynomial p.k l m (omega arith) (omega arith)))
      (flatten_zips p.dv 4 y ∙ ap (λ (n : ℕ). zip n y) words)
      (bind _ (rw count at (part_from ws from ((3 * p.dv + 38) * 4) h)) over)

  pub stage7-ran : {r r₁ r₂ : Recorder} {cs : List ℕ} {x : List Shares}
      → Ran (compress_polys p.du p.k (shared_list (take (256 * p.k) l) (take (256 * p.k) m)))
      r ws cs x r₁ (drop (p.k * compress_poly_words p.du) ws) cs
      → GroupsRan r₁ cs r₂
      → Ran (stage7 p (polynomials (p.k + 1) (shared_list l m))) r ws cs (x ++ zip (4 * p.dv) y) r₂
      (drop (stage7_words p) ws) cs
  unfolding stage7
  stage7-ran h g =
      let us = times p.k (λ j. compress_poly p.du (get_or (polynomials (p.k + 1) (shared_list l m)) j nothing)) in
      let then_v : List Shares → Prog (List Shares) = λ x. v >>= λ y. ret (x ++ y) in
      ran_as (bind_map us flatten then_v) refl
      (bind then_v (ran_as (front_polys p.du p.k (shared_list l m)) refl h) (bind _ (v-ran g) over))
