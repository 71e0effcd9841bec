-- Shoup's estimate of the quotient of z x by q, from that of z 2^16: right or one too small, since x is below 2^16.
use Rattle.std.proofs.Common.{◌≡◌, ℕ, ◌+◌, ◌*◌, ◌/◌, ◌%◌, ◌^◌, ◌<◌, ◌≤◌, ap, mul-le-mul, arith}
use Rattle.words.specs.Residue.{q}

-- w and r are quotient and remainder of z 2^16 by q
estimate : (z w r x : ℕ) → z * 2 ^ 16 ≡ w * q + r → r ≤ 3328 → x ≤ 65535
    → (w * x / 2 ^ 16 * q ≤ z * x) × (z * x < w * x / 2 ^ 16 * q + 2 * q)
estimate z w r x e h k =
    let m : z * 2 ^ 16 * x ≡ (w * q + r) * x = ap (λ (n : ℕ). n * x) e in
    let b : r * x ≤ 3328 * 65535 = mul-le-mul h k in
    (omega (arith, m, b), omega (arith, m, b))

pub shoup : (z w x : ℕ) → w ≡ z * 2 ^ 16 / q → x < 2 ^ 16
    → (w * x / 2 ^ 16 * q ≤ z * x) × (z * x < w * x / 2 ^ 16 * q + 2 * q)
shoup z w x e h = estimate z w (z * 2 ^ 16 % q) x (omega arith) (omega arith) (omega arith)
