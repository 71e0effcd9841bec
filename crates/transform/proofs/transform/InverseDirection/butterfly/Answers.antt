-- The code works on remainders, and q is added so that the difference is not negative: modulo q neither changes
-- the results.
use Rattle.transform.proofs.Butterflies.{inverse_butterfly_calls}
use Rattle.transform.proofs.transform.InverseDirection.butterfly.Goals as goal

pub returns : goal.returns
returns c =
    inverse_butterfly_calls _ _ _ _ c.remainder-a.ensures c.remainder-b.ensures
    c.reduced_sum.ensures c.multiple.ensures
