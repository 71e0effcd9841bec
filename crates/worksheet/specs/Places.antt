-- A fact of every entry, proved stretch by stretch or turn by turn.
use Rattle.std.specs.Prelude.{ℕ, zero, suc, ◌+◌, ◌*◌, ◌-◌, ◌/◌, ◌%◌, ◌<◌}
use Rattle.std.proofs.Common.{subst, mul-zero, div-add-mod', div-lt_iff_lt-mul, mod-lt, arith}
use Rattle.std.proofs.Math.Decide.{dec_lt}

-- of n entries and then m
pub cut : (P : ℕ → Type 0) (n m : ℕ) → ((i : ℕ) → i < n → P i) → ((i : ℕ) → i < m → P (n + i)) → (k : ℕ) → k < n + m
    → P k
cut P n m l r k h = go (dec_lt k n)
  where
    go : Dec (k < n) → P k
    go (yes q) = l k q
    go (no q) = subst P (omega arith) (r (k - n) (omega arith))

-- of n turns of m entries
pub turns : (P : ℕ → Type 0) (n m : ℕ) → ((j i : ℕ) → j < n → i < m → P (j * m + i)) → (k : ℕ) → k < n * m → P k
turns P n zero f k h = absurd (omega (arith, mul-zero n))
turns P n (suc m) f k h =
    subst P (div-add-mod' k (suc m))
    (f (k / suc m) (k % suc m) ((div-lt_iff_lt-mul {k = suc m} (omega arith)).1 h) (mod-lt k (omega arith)))
