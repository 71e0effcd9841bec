-- Words as numbers: exclusive or, and, ones, complement, low bits, rotation. They are shut, so that proofs go by their
-- laws and not by their text.
use Rattle.std.specs.Prelude.{ℕ, ◌+◌, ◌-◌, ◌*◌, ◌/◌, ◌%◌, ◌^◌}
use Rattle.std.specs.Int.Bits.{bit_xor, bit_and}

unfoldable pub xor : ℕ → ℕ → ℕ
xor x y = bit_xor x y

unfoldable pub and : ℕ → ℕ → ℕ
and x y = bit_and x y

-- n bits, all of them 1
unfoldable pub ones : ℕ → ℕ
ones n = 2 ^ n - 1

-- the n bits of x, each inverted
unfoldable pub complement : ℕ → ℕ → ℕ
complement n x = xor x (ones n)

-- the n bits of x, rotated left by k places
unfoldable pub rotl : ℕ → ℕ → ℕ → ℕ
rotl n x k = x * 2 ^ k % 2 ^ n + x / 2 ^ (n - k)

-- the lowest n bits of x
unfoldable pub low : ℕ → ℕ → ℕ
low n x = x % 2 ^ n
