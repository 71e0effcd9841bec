-- The product of transformed polynomials is made pair by pair, so that its coefficients and its linearity in either
-- factor follow from one pair's.
use Rattle.std.specs.Prelude.{◌≡◌, length, set}
use Rattle.std.proofs.Math.Path.{refl, ap}
use Rattle.std.proofs.Common.{sym, ap₂, ◌∙◌, get_or-append-add}
use mathlib.Core.List.{List, [], ◌∷◌, ◌++◌}
use Prim.Native.Nat.{ℕ, zero, suc, ◌+◌, ◌*◌, ◌%◌, ◌<◌}
use Rattle.std.proofs.Math.Decide.{dec_lt}
use native.Mathlib.Omega.{arith}
use Rattle.std.proofs.Math.ListN.{get_or, length-append, get_or-append}
use Rattle.words.specs.Residue.{q}
use Rattle.words.specs.Tab.{tab}
use Rattle.words.specs.Iterate.{iterate}
use Rattle.ring.specs.Polynomial.{add}
use Rattle.ring.specs.Sum.{add_append}
use Rattle.transform.specs.Transform.{gamma, pair_of, multiply_ntts}
use Rattle.transform.specs.Linear.{Combination, combination_at}

-- coefficient k of pair i of f times g: c0 for k = 0, c1 for k = 1
abbrev pub coefficient_of : List ℕ → List ℕ → ℕ → ℕ → ℕ
coefficient_of f g i k = get_or (pair_of f g i) k 0

-- s with pair i of f times g added
abbrev pub add_pair : List ℕ → List ℕ → ℕ → List ℕ → List ℕ
add_pair f g i s =
    set (set s (2 * i) ((get_or s (2 * i) 0 + coefficient_of f g i 0) % q))
    (2 * i + 1)
    ((get_or s (2 * i + 1) 0 + coefficient_of f g i 1) % q)

-- ---- lists of pairs

module _ (p : ℕ → List ℕ) (two : (i : ℕ) → length (p i) ≡ 2) where
  length_pairs : (n : ℕ) → length (iterate n (λ i h. h ++ p i) []) ≡ 2 * n
  unfolding iterate
  length_pairs zero = refl
  length_pairs (suc n) =
      length-append (iterate n (λ i h. h ++ p i) []) (p n) ∙ omega (arith, length_pairs n, two n)

  get_or_pairs : (n i k : ℕ) → i < n → k < 2 → get_or (iterate n (λ i h. h ++ p i) []) (2 * i + k) 0 ≡ get_or (p i) k 0
  unfolding iterate
  get_or_pairs zero i k h l = absurd (omega arith)
  get_or_pairs (suc n) i k h l = go (dec_lt i n) (get_or_pairs n i k)
    where
      before : List ℕ
      before = iterate n (λ i h. h ++ p i) []

      go : Dec (i < n) → (i < n → k < 2 → get_or before (2 * i + k) 0 ≡ get_or (p i) k 0)
          → get_or (before ++ p n) (2 * i + k) 0 ≡ get_or (p i) k 0
      go (yes b) r = get_or-append before (p n) 0 (2 * i + k) (omega (arith, length_pairs n)) ∙ r b l
      go (no b) r =
          let e : i ≡ n = omega arith in
          let at : 2 * i + k ≡ length before + k = omega (arith, length_pairs n) in
          ap (λ (j : ℕ). get_or (before ++ p n) j 0) at
          ∙ get_or-append-add before (p n) k 0
          ∙ ap (λ (j : ℕ). get_or (p j) k 0) (sym e)

-- where each pair is a sum, so is the whole
pairs_add : (n : ℕ) (p a b : ℕ → List ℕ) → ((i : ℕ) → length (a i) ≡ 2) → ((i : ℕ) → length (b i) ≡ 2)
    → ((i : ℕ) → p i ≡ add (a i) (b i))
    → iterate n (λ i h. h ++ p i) [] ≡ add (iterate n (λ i h. h ++ a i) []) (iterate n (λ i h. h ++ b i) [])
unfolding iterate add tab
pairs_add zero p a b k l e = refl
pairs_add (suc n) p a b k l e =
    ap₂ (λ (x y : List ℕ). x ++ y) (pairs_add n p a b k l e) (e n)
    ∙ sym
    (add_append (iterate n (λ i h. h ++ a i) []) (iterate n (λ i h. h ++ b i) []) (a n) (b n)
    (length_pairs a k n ∙ sym (length_pairs b l n)))

-- ---- the product's coefficients

pub length-multiply_ntts : (f g : List ℕ) → length (multiply_ntts f g) ≡ 256
unfolding multiply_ntts
length-multiply_ntts f g = length_pairs (pair_of f g) (λ i. refl) 128

module _ (f g : List ℕ) (i : ℕ) (h : i < 128) where
  pub get_or-multiply_ntts_even : get_or (multiply_ntts f g) (2 * i) 0 ≡ coefficient_of f g i 0
  unfolding multiply_ntts
  get_or-multiply_ntts_even =
      let e : 2 * i ≡ 2 * i + 0 = omega arith in
      ap (λ (j : ℕ). get_or (multiply_ntts f g) j 0) e ∙ get_or_pairs (pair_of f g) (λ i. refl) 128 i 0 h (omega arith)

  pub get_or-multiply_ntts_odd : get_or (multiply_ntts f g) (2 * i + 1) 0 ≡ coefficient_of f g i 1
  unfolding multiply_ntts
  get_or-multiply_ntts_odd = get_or_pairs (pair_of f g) (λ i. refl) 128 i 1 h (omega arith)

-- ---- linear in either factor

-- c0 and c1 as combinations of the left factor's pair, and of the right one's
left0 : (b0 b1 γ : ℕ) → Combination (λ a0 a1. (a0 * b0 + a1 * b1 * γ) % q)
left0 b0 b1 γ = record { left = b0; right = b1 * γ; is = λ a0 a1. ap (λ (n : ℕ). n % q) (omega arith) }

left1 : (b0 b1 : ℕ) → Combination (λ a0 a1. (a0 * b1 + a1 * b0) % q)
left1 b0 b1 = record { left = b1; right = b0; is = λ a0 a1. ap (λ (n : ℕ). n % q) (omega arith) }

right0 : (a0 a1 γ : ℕ) → Combination (λ b0 b1. (a0 * b0 + a1 * b1 * γ) % q)
right0 a0 a1 γ = record { left = a0; right = a1 * γ; is = λ b0 b1. ap (λ (n : ℕ). n % q) (omega arith) }

right1 : (a0 a1 : ℕ) → Combination (λ b0 b1. (a0 * b1 + a1 * b0) % q)
right1 a0 a1 = record { left = a1; right = a0; is = λ b0 b1. ap (λ (n : ℕ). n % q) (omega arith) }

-- h and k of pair i of l
abbrev combined : (ℕ → ℕ → ℕ) → (ℕ → ℕ → ℕ) → ℕ → List ℕ → List ℕ
combined h k i l =
    h (get_or l (2 * i) 0) (get_or l (2 * i + 1) 0) ∷ k (get_or l (2 * i) 0) (get_or l (2 * i + 1) 0) ∷ []

pair_add : {h k : ℕ → ℕ → ℕ} → Combination h → Combination k → (f g : List ℕ) (i : ℕ) → length f ≡ length g
    → combined h k i (add f g) ≡ add (combined h k i f) (combined h k i g)
unfolding add tab
pair_add c d f g i e =
    ap₂ (λ (x y : ℕ). x ∷ y ∷ [])
    (combination_at c f g (2 * i) (2 * i + 1) e)
    (combination_at d f g (2 * i) (2 * i + 1) e)

pair_left : (f g h : List ℕ) (i : ℕ) → length f ≡ length g → pair_of (add f g) h i ≡ add (pair_of f h i) (pair_of g h i)
pair_left f g h i e =
    let b0 = get_or h (2 * i) 0 in
    let b1 = get_or h (2 * i + 1) 0 in
    pair_add (left0 b0 b1 (gamma i)) (left1 b0 b1) f g i e

pair_right : (f g h : List ℕ) (i : ℕ) → length g ≡ length h
    → pair_of f (add g h) i ≡ add (pair_of f g i) (pair_of f h i)
pair_right f g h i e =
    let a0 = get_or f (2 * i) 0 in
    let a1 = get_or f (2 * i + 1) 0 in
    pair_add (right0 a0 a1 (gamma i)) (right1 a0 a1) g h i e

module _ (f g h : List ℕ) where
  pub multiply_ntts-add_left : length f ≡ length g
      → multiply_ntts (add f g) h ≡ add (multiply_ntts f h) (multiply_ntts g h)
  unfolding multiply_ntts
  multiply_ntts-add_left e =
      pairs_add 128 (pair_of (add f g) h) (pair_of f h) (pair_of g h) (λ i. refl) (λ i. refl) (λ i. pair_left f g h i e)

  pub multiply_ntts-add_right : length g ≡ length h
      → multiply_ntts f (add g h) ≡ add (multiply_ntts f g) (multiply_ntts f h)
  unfolding multiply_ntts
  multiply_ntts-add_right e =
      pairs_add 128 (pair_of f (add g h)) (pair_of f g) (pair_of f h) (λ i. refl) (λ i. refl)
      (λ i. pair_right f g h i e)
