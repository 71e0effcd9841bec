-- The code works on f[j] reduced, and sums and differences modulo q are the same for f[j] and for its remainder.
use native.Mathlib.Omega.{arith}
use lib.ListN.{length-set}
use Rattle.transform.proofs.Butterflies.{butterfly_calls}
use Rattle.transform.proofs.transform.ForwardDirection.butterfly.Goals as goal

pub returns : goal.returns
returns c =
    butterfly_calls _ _ _ _ c.remainder-a.ensures c.multiple-t.ensures
    c.reduced_difference.ensures c.reduced_sum.ensures

pub bounds-f-j-4 : goal.bounds-f-j-4
bounds-f-j-4 c = simp length-set (omega arith)
