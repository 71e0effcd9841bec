-- FIPS 202, section 3.2.5: the round constants, by Algorithm 5's shift register.
use Rattle.std.specs.Prelude.{ℕ, ◌+◌, ◌-◌, ◌*◌, ◌/◌, ◌%◌, ◌^◌}
use Rattle.words.specs.Word.{xor}
use Rattle.words.specs.Iterate.{iterate}

-- ---- Algorithm 5, rc(t)

-- R shifted by one place; its bit 8 is then added to bits 0, 4, 5 and 6 and cut off
unfoldable pub clocked : ℕ → ℕ
clocked r = xor (r * 2 % 2 ^ 8) (r / 2 ^ 7 * (2 ^ 0 + 2 ^ 4 + 2 ^ 5 + 2 ^ 6))

-- R after t steps; bit i of R is bit i of the number
unfoldable pub register : ℕ → ℕ
register t = iterate t (λ _. clocked) 1

unfoldable pub rc : ℕ → ℕ
rc t = register (t % 255) % 2

-- ---- Algorithm 6, steps 2 and 3, RC

-- bit 2^j - 1 of RC is rc(j + 7 i), in round i
abbrev pub with_bit : ℕ → ℕ → ℕ → ℕ
with_bit i j k = xor k (rc (j + 7 * i) * 2 ^ (2 ^ j - 1))

-- RC of round i
unfoldable pub constant : ℕ → ℕ
constant i = iterate 7 (with_bit i) 0
