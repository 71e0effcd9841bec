-- The four calls are the definition's four gates, in its order, all at the width of `ones`.
use Rattle.worksheet.specs.Gates.{masked_or}
use Rattle.worksheet.specs.Ran.{bind}
use Rattle.worksheet.proofs.gates.masked_or.Goals as goal

pub returns : goal.returns
unfolding masked_or
returns c w e ws cs m =
    bind _ (c.masked_not-a.ensures w e _ _)
    (bind _ (c.masked_not-b.ensures w e _ _)
    (bind _ (c.masked_and-z.ensures w _ _ m) (c.masked_not.ensures w e _ _)))
