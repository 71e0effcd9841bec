-- The words that stage 8 compares, as the code writes them, and its equal bit.
use mathlib.Core.Path.{◌≡◌, sym, ap, ◌∙◌, subst}
use mathlib.Core.List.{List, [], ◌++◌, flatten}
use Prim.Native.Nat.{ℕ, ◌+◌, ◌-◌, ◌*◌, ◌^◌, ◌<◌}
use native.Mathlib.Omega.{arith}
use lib.ListN.{length, get_or, take, drop}
use lib.Seq.{get_or-take, get_or-drop}
use Rattle.words.specs.Bounded.{Below}
use Rattle.words.specs.BoundedLaws.{below_nil}
use Rattle.words.specs.Digit.{digit}
use Rattle.words.specs.Part.{part_take, part_rest, part_fits}
use Rattle.words.specs.Plane.{plane}
use Rattle.words.specs.PlaneLaws.{plane_cong}
use Rattle.words.specs.Tab.{tab}
use Rattle.words.specs.TabLaws.{tab_cong}
use Rattle.codec.specs.Bytes.{byte_decode}
use Rattle.worksheet.specs.declared.Recorder.{Recorder}
use Rattle.worksheet.specs.Shares.{Shares}
use Rattle.worksheet.specs.Prog.{word}
use Rattle.worksheet.specs.Ran.{Ran, Makes, Draws, bind}
use Rattle.worksheet.specs.Gives.{gives-run}
use Rattle.worksheet.specs.Sharing.{none, joined}
use Rattle.worksheet.specs.SharingLaws.{Sharing, sharing-joined}
use Rattle.worksheet.specs.SharedList.{shared_list, shared_at}
use Rattle.worksheet.specs.Zip.{zip}
use Rattle.worksheet.specs.SharedListLaws.{get_d_zip}
use Rattle.masked_comparison.specs.Comparison.{add_public, all_zero, all_zero_words}
use Rattle.masked_comparison.specs.ComparisonReads.{add_public_cong, all_zero_cong}
use Rattle.masked_comparison.specs.ComparisonLaws.{gives-all_zero}
use Rattle.parameters.specs.declared.Parameters.{Parameters}
use Rattle.vectors.specs.Vector.{parts}
use Rattle.words.specs.Overwrite.{two_parts}
use Rattle.stages.specs.Worksheet.{planes_of, ciphertext_planes, word_count, stage8}
use Rattle.stages.specs.Counts.{stage8_words}
use Rattle.stages.specs.FlattenLaws.{length-flatten}
use Rattle.stages.specs.PlanesLaws.{length-planes_of}

-- ---- the planes of group g of f, and the ciphertext's words: those of the first k polynomials, then those of the last

pub group_planes : (d g : ℕ) (f : List ℕ)
    → tab d (plane 64 (λ i. get_or (take (64 * g + 64 - 64 * g) (drop (64 * g) f)) i 0))
    ≡ tab d (plane 64 (λ i. get_or f (64 * g + i) 0))
group_planes d g f =
    let e : 64 * g + 64 - 64 * g ≡ 64 = omega arith in
    rw e
    (tab_cong d (λ t h.
    plane_cong 64 t t _ _ (λ i l. ap (digit t) (get_or-take 64 (drop (64 * g) f) i 0 l ∙ get_or-drop (64 * g) f i 0))))

module _ (p : Parameters) where
  -- each part is lent as the part from 0 to its end, or as what is left
  pub planes_written : (c out : List ℕ) {x y : List ℕ} → length out ≡ word_count p
      → x ≡ flatten (tab p.k (λ i.
      planes_of p.du (byte_decode p.du (parts (32 * p.du) (take (32 * p.du * p.k - 0) c) i))))
      → y ≡ planes_of p.dv (byte_decode p.dv (take (length c - 32 * p.du * p.k) (drop (32 * p.du * p.k) c)))
      → (let n = 4 * p.du * p.k in let m = take 0 out ++ (x ++ drop (n - 0) (drop 0 out)) in
      take n m ++ (y ++ drop (length m - n) (drop n m))) ≡ ciphertext_planes p c
  unfolding ciphertext_planes
  planes_written c out l e f =
      let n = 32 * p.du * p.k in
      let polynomial : ℕ → List ℕ =
      λ i. planes_of p.du (byte_decode p.du (parts (32 * p.du) (take (n - 0) c) i)) in
      let long =
      length-flatten {n = 4 * p.du} {f = polynomial} (record { long = λ i h. length-planes_of p.du _ }) in
      let last = planes_of p.dv (byte_decode p.dv (drop n c)) in
      let fits = length-planes_of p.dv (byte_decode p.dv (drop n c)) in
      two_parts {t₂ = last} out (4 * p.du * p.k) long (omega arith) e
      (f ∙ ap (λ (l : List ℕ). planes_of p.dv (byte_decode p.dv l)) (part_rest n c))
      ∙ ap (λ (l : List (List ℕ)). flatten l ++ last)
      (tab_cong p.k (λ i h.
      ap (λ (l : List ℕ). planes_of p.du (byte_decode p.du l))
      (part_take (32 * p.du * i) (32 * p.du) (n - 0) c (omega (arith, part_fits (32 * p.du) h)))))

  -- ---- stage 8, by the ciphertext's words l: v is share 0 once l is added
  pub stage8_ran : (c w0 w1 v : List ℕ) {l ws : List ℕ} {b : Shares} {r r' r'' : Recorder} → 0 < word_count p
      → l ≡ ciphertext_planes p c → length l ≡ word_count p
      → Makes (add_public (length l) (λ j. get_or l j 0) (shared_at (shared_list w0 w1))) r
      (zip (length l) (shared_list v w1)) r'
      → Draws word (all_zero_words (length l - 1)) (all_zero (length l - 1) (shared_at (shared_list v w1))) r' ws b r''
      → Draws word (stage8_words p) (stage8 p c (zip (word_count p) (shared_list w0 w1))) r ws b r''
  unfolding stage8 stage8_words
  stage8_ran c w0 w1 v {l} {ws} {r = r} {r' = r'} h e k f g cs =
      let n = word_count p in
      let words = add_public_cong n {w = λ j. get_or (zip n (shared_list w0 w1)) j none}
      (λ j i. ap (λ (x : List ℕ). get_or x j 0) e) (λ j i. sym (get_d_zip n (shared_list w0 w1) j none i)) in
      let fold = all_zero_cong (n - 1) {w = λ j. get_or (zip n (shared_list v w1)) j none}
      (λ j i. sym (get_d_zip n (shared_list v w1) j none (omega arith))) in
      bind _ (rw (k, words) at (f ws cs)) (rw (k, fold) at (g cs))

-- the shares of the equal bit are bits
pub bit_shares : (n : ℕ) (a b ws : List ℕ) {z : Shares} {r r' : Recorder} {ws' : List ℕ}
    → Below (2 ^ 64) a → Below (2 ^ 64) b → Below (2 ^ 64) ws
    → Ran (all_zero n (shared_at (shared_list a b))) r ws [] z r' ws' [] → (z.s0 < 2) × (z.s1 < 2)
bit_shares n a b ws {z} f g h s =
    let w = shared_at (shared_list a b) in
    let o =
    gives-run
    (gives-all_zero n (λ j. joined (w j)) w
    (λ j l. sharing-joined (record { lt = f.at j }) (record { lt = g.at j })))
    {ws = ws} {cs = []} h (below_nil (omega arith)) in
    let t = subst (Sharing 1 _) s.value o in
    (t.bits0.lt, t.bits1.lt)
