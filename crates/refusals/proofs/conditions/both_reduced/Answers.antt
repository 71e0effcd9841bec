-- Both answers are joined by and, as the definition joins them.
use mathlib.Core.Path.{ap₂}
use mathlib.Core.Bool.{Bool, ◌&&◌}
use Rattle.refusals.proofs.conditions.both_reduced.Goals as goal

pub returns : goal.returns
returns c = ap₂ (λ (a b : Bool). a && b) c.reduced-first.ensures c.reduced-second.ensures
