-- The mask that is handed in is the one that the definition draws; the eight calls are then its eight entries, in
-- order.
use Rattle.worksheet.specs.MaskedAnd.{masked_and}
use Rattle.worksheet.specs.Ran.{bind, over, draws_low}
use Rattle.worksheet.proofs.gates.masked_and.Goals as goal

pub returns : goal.returns
unfolding masked_and
returns c w ws cs e =
    bind _ (draws_low w e)
    (bind _ (c.enter_and-t1.ensures _ _)
    (bind _ (c.enter_xor-t2.ensures _ _)
    (bind _ (c.enter_and-t3.ensures _ _)
    (bind _ (c.enter_xor-z0.ensures _ _)
    (bind _ (c.enter_and-t5.ensures _ _)
    (bind _ (c.enter_xor-t6.ensures _ _)
    (bind _ (c.enter_and-t7.ensures _ _)
    (bind _ (c.enter_xor-z1.ensures _ _) over))))))))
