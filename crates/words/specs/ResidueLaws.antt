-- Numbers modulo m: the laws of sums, products and differences, for every modulus.
use Rattle.std.specs.Prelude.{◌≡◌, ℕ, ◌+◌, ◌-◌, ◌*◌, ◌/◌, ◌%◌, ◌<◌, ◌≤◌}
use Rattle.std.proofs.Common.{sym, ap, ◌∙◌, mod-eq_of_lt, mul_comm, div-add-mod', arith}
use Rattle.std.proofs.Math.Nat.{add-mod, mod-add-mod, mul-add-mod_self_right, add-mod_right}

mod_mul_mod : (a b m : ℕ) → a % m * b % m ≡ a * b % m
mod_mul_mod a b m =
    sym (mul-add-mod_self_right (a / m * b) m (a % m * b))
    ∙ ap (λ (n : ℕ). n % m) (omega (arith, ap (λ (n : ℕ). n * b) (div-add-mod' a m)))

pub mul_mod_mod : (a b m : ℕ) → a * (b % m) % m ≡ a * b % m
mul_mod_mod a b m =
    ap (λ (n : ℕ). n % m) (mul_comm a (b % m)) ∙ mod_mul_mod b a m ∙ ap (λ (n : ℕ). n % m) (mul_comm b a)

-- sums of two, regrouped
pub add_swap_mod : (a b c d m : ℕ) → ((a + b) % m + (c + d) % m) % m ≡ ((a + c) % m + (b + d) % m) % m
add_swap_mod a b c d m =
    sym (add-mod (a + b) (c + d) m) ∙ ap (λ (n : ℕ). n % m) (omega arith) ∙ add-mod (a + c) (b + d) m

-- what is added and taken away again
add_sub_mod : (x c m : ℕ) → x < m → c ≤ m → ((x + c) % m + (m - c)) % m ≡ x
add_sub_mod x c m h g =
    mod-add-mod (x + c) m (m - c) ∙ ap (λ (n : ℕ). n % m) (omega arith) ∙ add-mod_right x m ∙ mod-eq_of_lt h

-- a summand is determined by the sum
pub add_mod_cancel : (a x y m : ℕ) → a ≤ m → x < m → y < m → (a + x) % m ≡ (a + y) % m → x ≡ y
add_mod_cancel a x y m h f g e = sym (back x f) ∙ ap (λ (n : ℕ). (n + (m - a)) % m) e ∙ back y g
  where
    back : (z : ℕ) → z < m → ((a + z) % m + (m - a)) % m ≡ z
    back z l = ap (λ (n : ℕ). (n % m + (m - a)) % m) (omega arith) ∙ add_sub_mod z a m l h
