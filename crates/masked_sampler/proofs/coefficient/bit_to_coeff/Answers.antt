-- The four calls make the definition's four entries in its order, with the one mask in both table values and the last.
use Rattle.worksheet.specs.Ran.{bind, over, draws_coeff}
use Rattle.masked_sampler.specs.Coefficient.{bit_to_coeff}
use Rattle.masked_sampler.proofs.coefficient.bit_to_coeff.Goals as goal

pub returns : goal.returns
unfolding bit_to_coeff
returns c ws cs e =
    bind _ (draws_coeff e)
    (bind _ (c.enter_table-t0.ensures _ _)
    (bind _ (c.enter_table-t1.ensures _ _)
    (bind _ (c.enter_choice-a0.ensures _ _)
    (bind _ (c.enter_negated-a1.ensures _ _) over))))
