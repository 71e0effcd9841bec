-- Row 1 is tested first; behind it the one function, told a step, or one past the end for all steps past it, answers
-- and hands back what the trace does.
use mathlib.Core.Path.{sym}
use native.Mathlib.Omega.{arith}
use Rattle.decapsulation_run.specs.Lent.{input_of}
use Rattle.decapsulation.proofs.Outcome.{trace_refused, trace_sized, told-traced}
use Rattle.decapsulation.proofs.decapsulation.trace_at.Goals as goal

pub returns-then-not-exact_input : goal.returns-then-not-exact_input
returns-then-not-exact_input c =
    let a = c.args in
    trace_refused a.e a.p (input_of a.input.now) a.step a.value.now c.exact_input.ensures c.if-not-exact_input.true

pub decapsulate-requires : goal.decapsulate-requires
decapsulate-requires c =
    let a = c.args in
    trace_sized a.e a.p (input_of a.input.now) a.step a.value.now c.exact_input.ensures c.if-not-exact_input.false
    _ _ c.requires (record { long0 = omega arith; long1 = omega arith })

pub returns : goal.returns
returns c =
    let a = c.args in
    told-traced a.e a.p (input_of a.input.now) a.step a.value.now c.exact_input.ensures c.if-not-exact_input.false
    (sym c.steps.ensures.value) c.left_of-left.ensures c.decapsulate.ensures
