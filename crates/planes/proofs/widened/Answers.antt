-- Turn i fills place i with coefficient i, whose value the wider word keeps.
use mathlib.Core.Path.{refl}
use native.Mathlib.Omega.{arith}
use Rattle.words.specs.Fill.{filled_start, filled_turn, filled_end}
use Rattle.planes.proofs.widened.Goals as goal

pub loop-i-preserved : goal.loop-i-preserved
loop-i-preserved c = (omega arith, filled_turn c.loop-i.invariant.1 (omega arith) c.from.ensures)

pub loop-i-init : goal.loop-i-init
loop-i-init c = (omega arith, filled_start refl)

pub returns : goal.returns
returns c = filled_end c.loop-i.invariant.1 (omega arith)
