-- The loop that takes a message's whole blocks in.
use mathlib.Core.Path.{◌≡◌, refl, sym, ap, ◌∙◌}
use mathlib.Core.List.{List, ◌++◌}
use Prim.Native.Nat.{ℕ, suc, ◌+◌, ◌-◌, ◌*◌, ◌/◌, ◌%◌, ◌<◌, ◌≤◌}
use native.Mathlib.Nat.{suc-mul, zero-mul}
use native.Mathlib.Omega.{arith}
use lib.Arith.{digits_mod}
use lib.ListN.{length, length-append, take, drop, replicate}
use lib.Seq.{take-append_seam, drop-append_seam}
use Rattle.std.proofs.lemmas.List.{length-drop, drop-drop}
use Rattle.words.specs.Iterate.{iterate}
use Rattle.words.specs.Numeral.{value}
use Rattle.words.specs.Part.{part_take}
use Rattle.keccak.specs.KeccakP.{keccak_p}
use Rattle.fips202.specs.Sponge.{padding, padded, lane_of, mixed, absorbed}
use Rattle.fips202.specs.Blocks.{taken, absorbed-padded}

-- eight bytes of p are a lane of its first block
pub lane_part : (rate : ℕ) (p : List ℕ) (j : ℕ) {w : ℕ} → j < rate / 8
    → w ≡ value 256 (take (8 * j + 8 - 8 * j) (drop (8 * j) p)) → w ≡ lane_of (take rate p) j
lane_part rate p j h e =
    let d : 8 * j + 8 - 8 * j ≡ 8 = omega arith in
    e ∙ ap (value 256) (rw d (sym (part_take (8 * j) 8 rate p (omega arith))))

-- the blocks of m before what is left are taken in, by an iterator over blocks of size bytes
pub record Absorbing (rate : ℕ) (m : List ℕ) (size : ℕ) (left t : List ℕ) : Type 0 where
  pub turns : ℕ
  pub sized : size ≡ rate
  pub within : turns * rate ≤ length m
  pub after : left ≡ drop (turns * rate) m
  pub reached : t ≡ iterate turns (taken rate m) (replicate 25 0)

pub absorbing_start : {rate : ℕ} {m : List ℕ} {size : ℕ} {left : List ℕ} → size ≡ rate → left ≡ m
    → Absorbing rate m size left (replicate 25 0)
unfolding iterate
absorbing_start {rate} s e = record {
  turns = 0;
  sized = s;
  within = rw (zero-mul rate) (omega arith);
  after = rw (zero-mul rate) e;
  reached = refl;
}

module _ {rate : ℕ} {m : List ℕ} {size : ℕ} {left t : List ℕ} (i : Absorbing rate m size left t) where
  length_left : i.turns * rate + length left ≡ length m
  length_left =
      let w = i.within in omega (arith, ap (λ (l : List ℕ). length l) i.after, length-drop (i.turns * rate) m)

  pub absorbing_turn : {size' : ℕ} {left' u : List ℕ} (block : List ℕ) → size' ≡ size → left ≡ block ++ left'
      → length block ≡ size → u ≡ keccak_p (mixed block t) → Absorbing rate m size' left' u
  unfolding iterate
  absorbing_turn {left' = left'} block s e l q =
      let n = i.turns * rate in
      let long : length block ≡ rate = l ∙ i.sized in
      let first : block ≡ take rate (drop n m) =
      sym (take-append_seam block left') ∙ ap (λ (k : ℕ). take k (block ++ left')) long
      ∙ ap (take rate) (sym e ∙ i.after) in
      let others : left' ≡ drop (n + rate) m =
      sym (drop-append_seam block left') ∙ ap (λ (k : ℕ). drop k (block ++ left')) long
      ∙ ap (drop rate) (sym e ∙ i.after)
      ∙ drop-drop rate n m in
      let more : suc i.turns * rate ≡ n + rate = suc-mul i.turns rate in
      record {
        turns = suc i.turns;
        sized = s ∙ i.sized;
        within = omega (arith, more, length_left, ap (λ (l : List ℕ). length l) e, length-append block left', long);
        after = rw more others;
        reached = q ∙ rw (first, i.reached) refl;
      }

  pub absorbing_end : {u p : List ℕ} (suffix : ℕ) (rest : List ℕ) → length left < size
      → rest ≡ drop (length m - length m % rate) m
      → p ≡ rest ++ padding suffix (rate - 1 - length rest)
      → u ≡ keccak_p (mixed p t) → u ≡ absorbed rate (padded rate suffix m)
  absorbing_end suffix rest h r e q =
      let s = i.sized in
      let n = i.turns * rate in
      let short : length left < rate = omega arith in
      let remainder : length m % rate ≡ length left =
      ap (λ (k : ℕ). k % rate) (sym length_left) ∙ digits_mod i.turns short in
      let from : length m - length m % rate ≡ n = omega (arith, remainder, length_left) in
      let is : rest ≡ drop n m = r ∙ ap (λ (k : ℕ). drop k m) from in
      q
      ∙ rw (e, is, i.reached)
      (sym (absorbed-padded rate suffix m i.turns i.within (omega (arith, length_left))))
