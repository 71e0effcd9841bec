-- The definition's weight changes from 1 to 3328 at eta, where the code's test does.
use mathlib.Core.Path.{sym}
use native.Mathlib.Omega.{arith}
use Rattle.masked_sampler.specs.SamplerLaws.{weight_lt, weight_ge}
use Rattle.masked_sampler.proofs.sampler.weight.Goals as goal

pub returns-then-j-eta : goal.returns-then-j-eta
returns-then-j-eta c = sym (weight_lt _ _ c.if-j-eta.true)

pub returns : goal.returns
returns c = let a = c.args in sym (weight_ge a.eta a.j (omega arith))
