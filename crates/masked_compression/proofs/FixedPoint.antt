-- The fixed point of a coefficient without a division: 84552411148 q is 2^48 + 1036, and 1036 x is too little to reach
-- the next quotient.
use Prim.Native.Nat.{ℕ, ◌+◌, ◌*◌, ◌/◌, ◌%◌, ◌^◌, ◌<◌, ◌≤◌}
use mathlib.Core.Path.{◌≡◌, sym, ap, ◌∙◌}
use native.Mathlib.Nat.{div-add-mod', div-eq_of_lt-le, mod-lt, mul-le-mul_right}
use native.Mathlib.Nat.{add-mul, mul_right_comm, mul_comm, mul_assoc}
use native.Mathlib.Omega.{arith}
use lib.Pow.{pow_mono, pow-add}
use Rattle.words.specs.Residue.{q}

-- x 2^48 is A q + R, where A and R are multiples of P
between : (x A R P : ℕ) → x < q → A * 3329 + R ≡ x * 2 ^ 48 → R ≤ 3328 * P → 2 ^ 24 ≤ P
    → (A ≤ x * 84552411148) × (x * 84552411148 < A + P)
between x A R P h e f g = (omega arith, omega arith)

pub estimate : (n s x : ℕ) → n + s ≡ 48 → 24 ≤ s → x < q → x * 84552411148 / 2 ^ s ≡ 2 ^ n * x / q
estimate n s x e h l =
    let P = 2 ^ s in
    let a = 2 ^ n * x / q in
    let r = 2 ^ n * x % q in
    let f : 2 ^ n * x * P ≡ x * 2 ^ 48 =
    ap (λ (z : ℕ). z * P) (mul_comm (2 ^ n) x)
    ∙ mul_assoc x (2 ^ n) P
    ∙ ap (λ (z : ℕ). x * z) (sym (pow-add 2 n s) ∙ ap (λ (z : ℕ). 2 ^ z) e) in
    let g : a * P * 3329 + r * P ≡ x * 2 ^ 48 =
    ap (λ (z : ℕ). z + r * P) (mul_right_comm a P 3329)
    ∙ sym (add-mul (a * 3329) r P)
    ∙ ap (λ (z : ℕ). z * P) (div-add-mod' (2 ^ n * x) q)
    ∙ f in
    let m : r ≤ 3328 = omega (arith, mod-lt (2 ^ n * x) {m = q} (omega arith)) in
    let b = between x (a * P) (r * P) P l g (mul-le-mul_right P m) (pow_mono h) in
    div-eq_of_lt-le {k = a} P b.0 (rw (add-mul a 1 P) (omega (arith, b.1)))
