-- Complement, exclusive or and Or of sharings, at any width w (document 01, The gadgets).
use Rattle.std.specs.Prelude.{ℕ}
use Rattle.words.specs.Word.{xor, complement}
use Rattle.worksheet.specs.Shares.{Shares}
use Rattle.worksheet.specs.Prog.{Prog, ret, ◌>>=◌, entry}
use Rattle.worksheet.specs.Sharing.{shares}
use Rattle.worksheet.specs.MaskedAnd.{masked_and}

-- the complement touches share 0 only
unfoldable pub masked_not : ℕ → Shares → Prog Shares
masked_not w u = do
  n ← entry (complement w u.s0)
  ret (shares n u.s1)

unfoldable pub masked_xor : Shares → Shares → Prog Shares
masked_xor u v = do
  a ← entry (xor u.s0 v.s0)
  b ← entry (xor u.s1 v.s1)
  ret (shares a b)

-- the complement of And of the complements
unfoldable pub masked_or : ℕ → Shares → Shares → Prog Shares
masked_or w u v = do
  a ← masked_not w u
  b ← masked_not w v
  z ← masked_and w a b
  masked_not w z
