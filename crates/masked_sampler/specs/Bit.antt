-- Bit j of a word in two shares.
use Rattle.std.specs.Prelude.{ℕ}
use Rattle.words.specs.Digit.{digit}
use Rattle.worksheet.specs.Shares.{Shares}
use Rattle.worksheet.specs.Sharing.{shares}

abbrev pub bit_of : Shares → ℕ → Shares
bit_of w j = shares (digit j w.s0) (digit j w.s1)
