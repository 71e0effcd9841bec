-- Laws of sums, and permutations of the numbers below n.
use Rattle.std.specs.Prelude.{ℕ, zero, suc, ◌+◌, ◌<◌, ◌≤◌, ◌≡◌, refl, Bool, true, false, ◌≢◌, eqb}
use Rattle.std.proofs.Common.{sym, ap, ap₂, ◌∙◌, zero-add, add-zero, arith, eqb-true, eq-eqb, ne_eqb}
use Rattle.std.proofs.lemmas.Bool.{eqb-false}
use Rattle.worksheet.specs.Sum.{sum, when}

pub sum_cong : (n : ℕ) {f g : ℕ → ℕ} → ((x : ℕ) → x < n → f x ≡ g x) → sum n f ≡ sum n g
unfolding sum
sum_cong zero h = refl
sum_cong (suc n) h = ap₂ ◌+◌ (sum_cong n (λ x lt. h x (omega arith))) (h n (omega arith))

pub sum_zero : (n : ℕ) → sum n (λ x. 0) ≡ 0
unfolding sum
sum_zero zero = refl
sum_zero (suc n) = rw (sum_zero n)

sum_add : (n : ℕ) (f g : ℕ → ℕ) → sum n (λ x. f x + g x) ≡ sum n f + sum n g
unfolding sum
sum_add zero f g = refl
sum_add (suc n) f g = omega (arith, sum_add n f g)

pub sum_swap : (n m : ℕ) (f : ℕ → ℕ → ℕ) → sum n (λ x. sum m (λ y. f x y)) ≡ sum m (λ y. sum n (λ x. f x y))
unfolding sum
sum_swap zero m f = sym (sum_zero m)
sum_swap (suc n) m f =
    ap (λ (t : ℕ). t + sum m (λ y. f n y)) (sum_swap n m f) ∙ sym (sum_add m (λ y. sum n (λ x. f x y)) (λ y. f n y))

sum_pick_above : (n a : ℕ) (f : ℕ → ℕ) → n ≤ a → sum n (λ x. when (eqb x a) (f x)) ≡ 0
unfolding sum
sum_pick_above zero a f h = refl
sum_pick_above (suc n) a f h = rw (ne_eqb n a (λ e. omega (arith, e)), sum_pick_above n a f (omega arith))

-- a sum of which only the term at a counts
sum_pick : (n a : ℕ) (f : ℕ → ℕ) → a < n → sum n (λ x. when (eqb x a) (f x)) ≡ f a
unfolding sum
sum_pick zero a f h = absurd (omega arith)
sum_pick (suc n) a f h = go (eqb n a) refl (sum_pick n a f)
  where
    go : (b : Bool) → eqb n a ≡ b → (a < n → sum n (λ x. when (eqb x a) (f x)) ≡ f a)
        → sum n (λ x. when (eqb x a) (f x)) + when (eqb n a) (f n) ≡ f a
    go true e ih =
        let q : n ≡ a = eqb-true n a e in
        rw (e, sum_pick_above n a f (omega arith), zero-add, q)
    go false e ih =
        let ne : a ≢ n = λ q. eqb-false n a e (sym q) in
        rw (e, add-zero, ih (omega arith))

-- a permutation of the numbers below n
pub record Perm (n : ℕ) : Type 0 where
  pub to : ℕ → ℕ
  pub from : ℕ → ℕ
  pub to_lt : (x : ℕ) → x < n → to x < n
  pub from_lt : (x : ℕ) → x < n → from x < n
  pub to_from : (x : ℕ) → x < n → to (from x) ≡ x
  pub from_to : (x : ℕ) → x < n → from (to x) ≡ x

perm-nat_eq : {n : ℕ} (π : Perm n) (x y : ℕ) → x < n → y < n → eqb y (π.to x) ≡ eqb x (π.from y)
perm-nat_eq π x y lx ly = go (eqb y (π.to x)) refl
  where
    go : (b : Bool) → eqb y (π.to x) ≡ b → b ≡ eqb x (π.from y)
    go true e = sym (eq-eqb x (π.from y) (sym (π.from_to x lx) ∙ ap π.from (sym (eqb-true y (π.to x) e))))
    go false e = sym (ne_eqb x (π.from y) (λ q. eqb-false y (π.to x) e (sym (π.to_from y ly) ∙ ap π.to (sym q))))

-- a permutation keeps a sum
pub sum-perm : (n : ℕ) (π : Perm n) (f : ℕ → ℕ) → sum n (λ x. f (π.to x)) ≡ sum n f
sum-perm n π f =
    sum_cong n (λ x lt. sym (sum_pick n (π.to x) f (π.to_lt x lt)))
    ∙ sum_swap n n (λ x y. when (eqb y (π.to x)) (f y))
    ∙ sum_cong n (λ y ly.
    sum_cong n (λ x lx. ap (λ (b : Bool). when b (f y)) (perm-nat_eq π x y lx ly))
    ∙ sum_pick n (π.from y) (λ x. f y) (π.from_lt y ly))
