-- What laws say of words: that they have n bits, and Or.
use Rattle.std.specs.Prelude.{ℕ, ◌^◌, ◌<◌}
use Rattle.words.specs.Word.{and, complement}

-- x has n bits
pub record Bits (n x : ℕ) : Type 0 where
  pub lt : x < 2 ^ n

-- x or y, words of n bits, by De Morgan's law
unfoldable pub or : ℕ → ℕ → ℕ → ℕ
or n x y = complement n (and (complement n x) (complement n y))
