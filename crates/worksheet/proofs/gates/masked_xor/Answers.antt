-- The two calls are the definition's two entries, in its order.
use Rattle.worksheet.specs.Gates.{masked_xor}
use Rattle.worksheet.specs.Ran.{bind, over}
use Rattle.worksheet.proofs.gates.masked_xor.Goals as goal

pub returns : goal.returns
unfolding masked_xor
returns c ws cs =
    bind _ (c.enter_xor-a.ensures _ _) (bind _ (c.enter_xor-b.ensures _ _) over)
