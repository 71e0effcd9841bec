-- The test of equality holds of equal lists alone, and is the one that std makes.
use Rattle.std.specs.Prelude.{◌≡◌, refl, Bool, true, false, ◌&&◌, List, [], ◌∷◌, ℕ, ◌≤◌, eqb, length, nat_eq, get_or}
use Rattle.std.specs.Cmp.Lexicographic.{pointwise}
use Rattle.std.proofs.Common.{sym, ap, ap₂, ◌∙◌, eq-eqb, eqb-true}
use Rattle.words.specs.Walk.{Walked, walked_equal, refuted}
use Rattle.refusals.specs.Same.{same}

-- ---- tests

pub and_left : (a b : Bool) → (a && b) ≡ true → a ≡ true
and_left true b h = refl
and_left false b h = h

pub and_right : (a b : Bool) → (a && b) ≡ true → b ≡ true
and_right true b h = h
and_right false b h = let z : ◌≡◌ {A = Bool} false true = h in cc

-- ---- equal lists

pub same_refl : (l : List ℕ) → same l l ≡ true
unfolding same
same_refl [] = refl
same_refl (x ∷ l) = ap₂ (λ (a b : Bool). a && b) (eq-eqb x x refl) (same_refl l)

pub same_true : (k l : List ℕ) → same k l ≡ true → k ≡ l
unfolding same
same_true [] [] h = refl
same_true [] (y ∷ l) h = cc
same_true (x ∷ k) [] h = cc
same_true (x ∷ k) (y ∷ l) h =
    ap₂ (λ (a : ℕ) (b : List ℕ). a ∷ b) (eqb-true x y (and_left (eqb x y) (same k l) h))
    (same_true k l (and_right (eqb x y) (same k l) h))

-- as std compares two lists
pub same-pointwise : (k l : List ℕ) → same k l ≡ pointwise nat_eq k l
unfolding same
same-pointwise [] [] = refl
same-pointwise [] (y ∷ l) = refl
same-pointwise (x ∷ k) [] = refl
same-pointwise (x ∷ k) (y ∷ l) = ap (λ (b : Bool). eqb x y && b) (same-pointwise k l)

-- ---- a loop that compares place by place

-- where it stops, a place differs
pub same_differ : (k l : List ℕ) (i : ℕ) → (get_or k i 0 ≡ get_or l i 0 → ⊥) → false ≡ same k l
same_differ k l i g = sym (refuted (same k l) (same_true k l) (λ e. g (ap (λ (m : List ℕ). get_or m i 0) e)))

-- at its end, lists of one length are equal
pub same-walked : (k l : List ℕ) {i : ℕ} → Walked (length k) (λ j. get_or k j 0 ≡ get_or l j 0) i → length k ≤ i
    → length k ≡ length l → true ≡ same k l
same-walked k l w h e = sym (ap (same k) (sym (walked_equal 0 w h e)) ∙ same_refl k)

-- lists of different lengths need no loop
pub same_lengths : (k l : List ℕ) → (length k ≡ length l → ⊥) → false ≡ same k l
same_lengths k l g = sym (refuted (same k l) (same_true k l) (λ e. g (ap length e)))
