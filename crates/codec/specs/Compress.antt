-- FIPS 203, section 4.2.1: Compress_d and Decompress_d.
-- The nearest number to a / b, halves rounded up, is (2 a + b) / (2 b).
use Rattle.std.specs.Prelude.{ℕ, ◌+◌, ◌*◌, ◌/◌, ◌%◌, ◌^◌}
use Rattle.words.specs.Residue.{q}

-- Compress_d, (4.7)
unfoldable pub compress : ℕ → ℕ → ℕ
compress d x = (2 * (2 ^ d * x) + q) / (2 * q) % 2 ^ d

-- Decompress_d, (4.8)
unfoldable pub decompress : ℕ → ℕ → ℕ
decompress d y = (2 * (q * y) + 2 ^ d) / (2 * 2 ^ d)
