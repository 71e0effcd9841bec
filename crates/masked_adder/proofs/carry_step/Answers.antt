-- The four calls are the definition's four steps in its order.
use Rattle.worksheet.specs.Ran.{bind}
use Rattle.masked_adder.specs.Adder.{carry_step}
use Rattle.masked_adder.proofs.carry_step.Goals as goal

pub returns : goal.returns
unfolding carry_step
returns c ws cs e =
    bind _ (c.masked_xor-x.ensures _ _)
    (bind _ (c.masked_xor-y.ensures _ _)
    (bind _ (c.masked_and-z.ensures 64 _ _ e) (c.masked_xor.ensures _ _)))
