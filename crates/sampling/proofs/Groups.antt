-- A loop over a stream's groups of three bytes: what the iterator has left begins with the next group's bytes, of which
-- the two numbers are made.
use Rattle.std.proofs.Math.Path.{sym, ap, ap₂}
use Rattle.std.proofs.Common.{◌∙◌, arith, drop-drop, get_or-drop, length-append, length-drop}
use Rattle.std.specs.Prelude.{◌≡◌, List, ◌++◌, ℕ, ◌+◌, ◌*◌, ◌/◌, ◌%◌, ◌<◌, ◌≤◌, length, get_or, drop}
use Rattle.std.proofs.Math.ListN.{get_or-append}
use lib.Seq.{drop-append_seam}
use Rattle.sampling.specs.Sample.{d₁, d₂}

-- P holds for the groups read, of size bytes each
pub record Reading (s : List ℕ) (P : ℕ → Type 0) (size : ℕ) (left : List ℕ) : Type 0 where
  pub groups : ℕ
  pub sized : size ≡ 3
  pub within : 3 * groups ≤ length s
  pub after : left ≡ drop (3 * groups) s
  pub so_far : P groups

module _ {s : List ℕ} {P : ℕ → Type 0} {size : ℕ} {left : List ℕ} where
  pub reading_start : size ≡ 3 → left ≡ s → P 0 → Reading s P size left
  reading_start e f p = record { groups = 0; sized = e; within = omega arith; after = f; so_far = p }

  module _ (r : Reading s P size left) where
    length_left : 3 * r.groups + length left ≡ length s
    length_left = omega (arith, r.within, ap (λ (l : List ℕ). length l) r.after, length-drop (3 * r.groups) s)

    pub reading_end : length left < size → length s ≡ 840 → r.groups ≡ 280
    reading_end h e = omega (arith, h, e, r.sized, length_left)

    module _ (b left' : List ℕ) (e : left ≡ b ++ left') (l : length b ≡ size) where
      byte : (k : ℕ) → k < 3 → get_or b k 0 ≡ get_or s (3 * r.groups + k) 0
      byte k h =
          let n : k < length b = omega (arith, h, l, r.sized) in
          sym (get_or-append b left' 0 k n)
          ∙ ap (λ (l : List ℕ). get_or l k 0) (sym e ∙ r.after)
          ∙ get_or-drop (3 * r.groups) s k 0

      pub first : get_or b 0 0 + 256 * (get_or b 1 0 % 16) ≡ d₁ s r.groups
      first =
          let z : 3 * r.groups + 0 ≡ 3 * r.groups = omega arith in
          ap₂ (λ (x y : ℕ). x + 256 * (y % 16)) (rw z at (byte 0 (omega arith))) (byte 1 (omega arith))

      pub second : get_or b 1 0 / 16 + 16 * get_or b 2 0 ≡ d₂ s r.groups
      second = ap₂ (λ (x y : ℕ). x / 16 + 16 * y) (byte 1 (omega arith)) (byte 2 (omega arith))

      pub reading_turn : {Q : ℕ → Type 0} {size' : ℕ} → size' ≡ size → Q (r.groups + 1) → Reading s Q size' left'
      reading_turn g p =
          let long = l ∙ r.sized in
          let all = ap (λ (l : List ℕ). length l) e in
          let others : left' ≡ drop (3 * r.groups + 3) s =
          sym (drop-append_seam b left')
          ∙ ap (λ (k : ℕ). drop k (b ++ left')) long
          ∙ ap (drop 3) (sym e ∙ r.after)
          ∙ drop-drop 3 (3 * r.groups) s in
          let more : 3 * (r.groups + 1) ≡ 3 * r.groups + 3 = omega arith in
          record {
            groups = r.groups + 1;
            sized = g ∙ r.sized;
            within = omega (arith, length_left, all, length-append b left', long);
            after = rw more others;
            so_far = p;
          }
