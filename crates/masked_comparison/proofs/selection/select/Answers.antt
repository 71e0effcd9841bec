-- The calls are the definition's steps in its order, on the copies that the definition takes.
use Rattle.worksheet.specs.Ran.{bind}
use Rattle.masked_comparison.specs.Comparison.{select}
use Rattle.masked_comparison.proofs.selection.select.Goals as goal

pub returns : goal.returns
unfolding select
returns c ws cs e =
    rw (← c.copies.ensures)
    (bind _ (c.masked_xor-d.ensures _ _)
    (bind _ (c.masked_and-z.ensures 64 _ _ e) (c.masked_xor.ensures _ _)))
