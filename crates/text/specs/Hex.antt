-- Bytes as hexadecimal digits, the high half of each first.
use Rattle.std.specs.Prelude.{List, ℕ, zero, suc, ◌+◌, ◌*◌, ◌/◌, ◌%◌, cond, nat_lt, length, get_or}
use Rattle.words.specs.Tab.{tab}

-- the ASCII code of a digit below 16: 0 to 9, then a to f
abbrev pub glyph : ℕ → ℕ
glyph d = cond (nat_lt d 10) (48 + d) (87 + d)

-- the high half of a byte is its half 0
abbrev pub half : ℕ → ℕ → ℕ
half zero x = x / 16
half (suc n) x = x % 16

-- digit i of the bytes b
abbrev pub digit_at : List ℕ → ℕ → ℕ
digit_at b i = glyph (half (i % 2) (get_or b (i / 2) 0))

unfoldable pub hex : List ℕ → List ℕ
hex b = tab (2 * length b) (digit_at b)
