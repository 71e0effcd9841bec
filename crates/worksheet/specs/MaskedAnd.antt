-- And of two sharings, at any width (document 01, The gadgets: And).
use Rattle.std.specs.Prelude.{ℕ}
use Rattle.words.specs.Word.{xor, and}
use Rattle.worksheet.specs.Shares.{Shares}
use Rattle.worksheet.specs.Prog.{Prog, ret, ◌>>=◌, mask_low, entry}
use Rattle.worksheet.specs.Sharing.{shares}

unfoldable pub masked_and : ℕ → Shares → Shares → Prog Shares
masked_and w u v = do
  r ← mask_low w
  t1 ← entry (and u.s0 v.s1)
  t2 ← entry (xor t1 r)
  t3 ← entry (and u.s0 v.s0)
  z0 ← entry (xor t3 t2)
  t5 ← entry (and u.s1 v.s0)
  t6 ← entry (xor t5 r)
  t7 ← entry (and u.s1 v.s1)
  z1 ← entry (xor t7 t6)
  ret (shares z0 z1)
