-- Words in two shares.
use Rattle.std.specs.Prelude.{ℕ}
use Rattle.words.specs.Word.{xor}
use Rattle.worksheet.specs.Shares.{Shares}

abbrev pub shares : ℕ → ℕ → Shares
shares a b = record { s0 = a; s1 = b }

-- the word that two shares stand for
abbrev pub joined : Shares → ℕ
joined z = xor z.s0 z.s1

-- the sharing of 0 by zeros
abbrev pub none : Shares
none = shares 0 0
