-- A list that is overwritten from the front, part by part.
use Rattle.std.specs.Prelude.{◌≡◌, refl, List, [], ◌++◌, ℕ, ◌+◌, ◌-◌, ◌≤◌, length, take, drop}
use Rattle.std.proofs.Common.{sym, ap, ap₂, ◌∙◌, append_assoc, append-nil, arith, length-append, length-drop}
use Rattle.std.proofs.Common.{drop_of_length-le, take_at, drop_at, drop-drop}

module _ {A : Type 0} where
  -- the elements of p stand in front, and those after them are still l₀'s
  pub record Overwritten (p l₀ l : List A) : Type 0 where
    pub fits : length p ≤ length l₀
    pub is : l ≡ p ++ drop (length p) l₀

  pub overwritten_start : {l : List A} → Overwritten [] l l
  overwritten_start = record { fits = omega arith; is = refl }

  module _ {p l₀ l : List A} (o : Overwritten p l₀ l) where
    pub overwritten_length : length l ≡ length l₀
    overwritten_length = ap length o.is ∙ length-append p _ ∙ omega (arith, length-drop (length p) l₀, o.fits)

    overwritten_front : (a : ℕ) → length p ≡ a → take a l ≡ p
    overwritten_front a h = ap (take a) o.is ∙ take_at p _ a h

    pub overwritten_rest : (a : ℕ) → length p ≡ a → drop a l ≡ drop a l₀
    overwritten_rest a h = ap (drop a) o.is ∙ drop_at p _ a h ∙ ap (λ (n : ℕ). drop n l₀) h

    -- the elements from a to e become those of t
    pub overwritten_part : {r t : List A} (a e : ℕ) → length p ≡ a → a + length t ≡ e → e ≤ length l₀ → r ≡ t
        → Overwritten (p ++ t) l₀ (take a l ++ (r ++ drop (e - a) (drop a l)))
    overwritten_part {r} {t} a e h f g k =
        let w : length (p ++ t) ≡ a + (e - a) = length-append p t ∙ omega arith in
        rw k
        record {
          fits = omega arith;
          is =
              ap₂ (λ (x y : List A). x ++ (t ++ drop (e - a) y)) (overwritten_front a h) (overwritten_rest a h)
              ∙ sym (append_assoc p t _)
              ∙ ap (λ (x : List A). (p ++ t) ++ x) (drop-drop (e - a) a l₀ ∙ ap (λ (n : ℕ). drop n l₀) (sym w));
        }

    pub overwritten_end : length l₀ ≤ length p → l ≡ p
    overwritten_end h = o.is ∙ ap (λ (x : List A). p ++ x) (drop_of_length-le l₀ h) ∙ append-nil p

  -- the elements from a on become those of t
  pub overwritten_last : {p l₀ l r t : List A} (o : Overwritten p l₀ l) (a : ℕ) → length p ≡ a
      → a + length t ≡ length l₀ → r ≡ t
      → take a l ++ (r ++ drop (length l - a) (drop a l)) ≡ p ++ t
  overwritten_last {p} {t = t} o a h f k =
      overwritten_end
      (overwritten_part o a _ h (f ∙ sym (overwritten_length o)) (omega (arith, overwritten_length o)) k)
      (omega (arith, length-append p t))

-- a slice whose first n elements are written, and then the others
pub two_parts : {r₁ t₁ r₂ t₂ : List ℕ} (l : List ℕ) (n : ℕ) → length t₁ ≡ n → n + length t₂ ≡ length l → r₁ ≡ t₁
    → r₂ ≡ t₂
    → (let m = take 0 l ++ (r₁ ++ drop (n - 0) (drop 0 l)) in take n m ++ (r₂ ++ drop (length m - n) (drop n m)))
    ≡ t₁ ++ t₂
two_parts l n h g e f =
    overwritten_last (overwritten_part (overwritten_start {l = l}) 0 n refl (omega arith) (omega arith) e) n h g f
