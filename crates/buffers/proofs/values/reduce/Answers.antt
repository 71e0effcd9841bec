-- The first i coefficients are reduced and the others are still the old ones (Mapped), so turn i reduces an old one.
use mathlib.Core.Path.{refl}
use native.Mathlib.Omega.{arith}
use Rattle.words.specs.Fill.{mapped_start, mapped_turn, mapped_end}
use Rattle.buffers.proofs.values.reduce.Goals as goal

pub loop-x-init : goal.loop-x-init
loop-x-init c = mapped_start

pub loop-x-preserved : goal.loop-x-preserved
loop-x-preserved c = mapped_turn c.loop-x.invariant (omega arith) refl

pub returns : goal.returns
returns c = mapped_end c.loop-x.invariant (omega arith)
