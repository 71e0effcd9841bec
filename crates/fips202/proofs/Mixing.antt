-- The loop that adds a block to the state, lane by lane: past the block's end there is nothing to add.
use mathlib.Core.Path.{◌≡◌, sym, ap, ◌∙◌}
use mathlib.Core.List.{List, ◌++◌}
use Prim.Native.Nat.{ℕ, ◌+◌, ◌*◌, ◌%◌, ◌<◌, ◌≤◌}
use native.Mathlib.Omega.{arith}
use lib.ListN.{length, length-append, get_or, set, take, drop, drop_of_length-le}
use lib.Seq.{take-append_seam, drop-append_seam}
use Rattle.std.proofs.lemmas.List.{length-drop, drop-drop}
use Rattle.words.specs.Word.{xor}
use Rattle.words.specs.WordLaws.{xor_zero}
use Rattle.words.specs.Fill.{Replaced, replaced_start, replaced_turn, replaced_stop}
use Rattle.words.specs.Numeral.{value}
use Rattle.fips202.specs.Sponge.{lane_of, mixed}

abbrev lanes_of : List ℕ → List ℕ → ℕ → ℕ
lanes_of p s j = xor (get_or s j 0) (lane_of p j)

lane_past : (p s : List ℕ) (k : ℕ) → length p ≤ 8 * k → get_or s k 0 ≡ lanes_of p s k
unfolding value
lane_past p s k h = rw (drop_of_length-le p {i = 8 * k} h) (sym (xor_zero (get_or s k 0)))

-- j lanes of p are added to s, which has become t; left is what an iterator over parts of size bytes has left
pub record Mixing (p s : List ℕ) (j size : ℕ) (left t : List ℕ) : Type 0 where
  pub sized : size ≡ 8
  pub within : 8 * j ≤ length p
  pub after : left ≡ drop (8 * j) p
  pub lanes : Replaced 25 (lanes_of p s) 0 s j t

pub mixing_start : {p s : List ℕ} {size : ℕ} {left : List ℕ} → size ≡ 8 → left ≡ p → length s ≡ 25
    → Mixing p s 0 size left s
mixing_start z e l = record { sized = z; within = omega arith; after = e; lanes = replaced_start l }

module _ {p s : List ℕ} {j size : ℕ} {left t : List ℕ} (i : Mixing p s j size left t) where
  length_left : 8 * j + length left ≡ length p
  length_left = let w = i.within in omega (arith, ap (λ (l : List ℕ). length l) i.after, length-drop (8 * j) p)

  -- another lane is left for each that is handed out
  mixing_fits : (lane left' : List ℕ) → length p ≤ 200 → left ≡ lane ++ left' → length lane ≡ size
      → j < 25
  mixing_fits lane left' h e l =
      let z = i.sized in
      omega (arith, length_left, ap (λ (l : List ℕ). length l) e, length-append lane left')

  pub mixing_turn : {j' size' w : ℕ} {left' : List ℕ} (lane : List ℕ) → length p ≤ 200 → j' ≡ j + 1 → size' ≡ size
      → left ≡ lane ++ left' → length lane ≡ size → w ≡ value 256 lane
      → Mixing p s j' size' left' (set t j (xor (get_or t j 0) w))
  mixing_turn {left' = left'} lane h n z e l q =
      let k = 8 * j in
      let long : length lane ≡ 8 = l ∙ i.sized in
      let first : lane ≡ take 8 (drop k p) =
      sym (take-append_seam lane left') ∙ ap (λ (m : ℕ). take m (lane ++ left')) long
      ∙ ap (take 8) (sym e ∙ i.after) in
      let others : left' ≡ drop (k + 8) p =
      sym (drop-append_seam lane left') ∙ ap (λ (m : ℕ). drop m (lane ++ left')) long
      ∙ ap (drop 8) (sym e ∙ i.after)
      ∙ drop-drop 8 k p in
      let more : 8 * (j + 1) ≡ k + 8 = omega arith in
      rw n
      record {
        sized = z ∙ i.sized;
        within = omega (arith, length_left, ap (λ (l : List ℕ). length l) e, length-append lane left');
        after = rw more others;
        lanes = replaced_turn i.lanes (mixing_fits lane left' h e l)
            (rw (i.lanes.rest j (omega arith), q) (ap (λ (l : List ℕ). xor (get_or s j 0) (value 256 l)) first));
      }

  pub mixing_end : length p % 8 ≡ 0 → length left < size → t ≡ mixed p s
  unfolding mixed
  mixing_end d h =
      let z = i.sized in
      replaced_stop i.lanes (λ k l. lane_past p s k (omega (arith, length_left)))
