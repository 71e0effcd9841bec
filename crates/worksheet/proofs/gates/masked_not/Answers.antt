-- The one call is the definition's one entry, on share 0; share 1 is handed on in both.
use Rattle.worksheet.specs.Gates.{masked_not}
use Rattle.worksheet.specs.Ran.{bind, over}
use Rattle.worksheet.proofs.gates.masked_not.Goals as goal

pub returns : goal.returns
unfolding masked_not
returns c w e ws cs = bind _ (c.enter_complement-n.ensures w e _ _) over
