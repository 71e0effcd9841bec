-- A loop that writes the k parts of n elements of a slice, one after the other.
use Rattle.std.specs.Prelude.{◌≡◌, List, ◌++◌, ℕ, ◌+◌, ◌-◌, ◌*◌, ◌<◌, ◌≤◌, length, take, drop}
use Rattle.std.proofs.Common.{sym, ap, ◌∙◌, mul-zero, mul-suc, add-one, arith, length-append}
use Rattle.words.specs.Part.{length_part, part_fits}
use Rattle.words.specs.Overwrite.{
  Overwritten,
  overwritten_start,
  overwritten_length,
  overwritten_rest,
  overwritten_part,
  overwritten_end,
}
use Rattle.slices.specs.Parts.{parts, concat}

module _ {A : Type 0} where
  -- the first i of the k parts of l are those of f, and the others are still l₀'s
  pub record Concatenated (n k : ℕ) (f : ℕ → List A) (l₀ : List A) (i : ℕ) (l : List A) : Type 0 where
    pub within : i ≤ k
    pub long : length l₀ ≡ n * k
    pub whole : length l ≡ n * k
    pub front : length (concat i f) ≡ n * i
    pub over : Overwritten (concat i f) l₀ l

  pub concatenated_start : {n k : ℕ} {f : ℕ → List A} {l : List A} → length l ≡ n * k → Concatenated n k f l 0 l
  unfolding concat
  concatenated_start {n} h =
      record { within = omega arith; long = h; whole = h; front = sym (mul-zero n); over = overwritten_start }

  -- lent as the part from a to a + n
  lent : (a n : ℕ) (l : List A) → take (a + n - a) (drop a l) ≡ take n (drop a l)
  lent a n l = let e : a + n - a ≡ n = omega arith in rw e

  pub length_lent : (a n : ℕ) (l : List A) → a + n ≤ length l → length (take (a + n - a) (drop a l)) ≡ n
  length_lent a n l h = ap length (lent a n l) ∙ length_part a n l h

  module _ {n k : ℕ} {f : ℕ → List A} {l₀ : List A} {i : ℕ} {l : List A} (j : Concatenated n k f l₀ i l) where
    pub concatenated_fits : i < k → n * i + n ≤ length l
    concatenated_fits h = omega (arith, part_fits n h, j.whole)

    -- part i is still l₀'s
    pub concatenated_part : i < k → take (n * i + n - n * i) (drop (n * i) l) ≡ parts n l₀ i
    concatenated_part h = lent (n * i) n l ∙ ap (take n) (overwritten_rest j.over (n * i) j.front)

    pub concatenated_turn : {r : List A} → i < k → length r ≡ length (take (n * i + n - n * i) (drop (n * i) l))
        → r ≡ f i
        → Concatenated n k f l₀ (i + 1) (take (n * i) l ++ (r ++ drop (n * i + n - n * i) (drop (n * i) l)))
    unfolding concat
    concatenated_turn {r} h e g =
        let w : length (f i) ≡ n = sym (ap length g) ∙ e ∙ length_lent (n * i) n l (concatenated_fits h) in
        let fits : n * i + n ≤ length l₀ = omega (arith, part_fits n h, j.long) in
        let o = overwritten_part j.over (n * i) (n * i + n) j.front (omega arith) fits g in
        rw add-one
        record {
          within = omega arith;
          long = j.long;
          whole = overwritten_length o ∙ j.long;
          front = length-append (concat i f) (f i) ∙ omega (arith, j.front, mul-suc n i);
          over = o;
        }

    pub concatenated_end : k ≤ i → l ≡ concat k f
    concatenated_end h =
        let e : i ≡ k = omega (arith, j.within) in
        overwritten_end j.over (rw (j.front, e) (omega (arith, j.long))) ∙ ap (λ (m : ℕ). concat m f) e
