-- The code's table holds the roots that the layers take.
use native.Mathlib.Omega.{arith}
use Rattle.transform.proofs.Powers.{zetas-tab}
use Rattle.transform.proofs.transform.ntt.Goals as goal

pub layers-requires : goal.layers-requires
layers-requires c = (omega arith, zetas-tab)
