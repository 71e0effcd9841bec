-- The comparison of slices goes place by place, as the definition does.
use Rattle.std.proofs.Common.{◌∙◌, sym}
use Rattle.refusals.specs.SameLaws.{same-pointwise}
use Rattle.refusals.proofs.conditions.same.Goals as goal

pub returns : goal.returns
returns c = c.eq.ensures ∙ sym (same-pointwise _ _)
