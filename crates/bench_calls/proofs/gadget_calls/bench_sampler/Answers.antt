-- The tests before the call are what the sampler asks for: a width from 1 to 3, and enough masks, all below q.
use mathlib.Core.Path.{sym, ◌∙◌}
use native.Mathlib.Omega.{arith}
use Rattle.refusals.specs.ReducedLaws.{reduced-below}
use Rattle.bench_calls.proofs.gadget_calls.bench_sampler.Goals as goal

pub sampler-o-requires : goal.sampler-o-requires
sampler-o-requires c =
    let masks = reduced-below _ (sym c.reduced.ensures ∙ c.if-not-reduced.false) in
    record { positive = omega arith; width = omega arith; masks = omega arith; below = masks }
