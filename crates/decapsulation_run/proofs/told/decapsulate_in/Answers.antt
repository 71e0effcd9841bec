-- Rows 5 to 7 are tested by a function, row 8 by the count; where none refuses, the run leaves the shares and the
-- recorder's value.
use mathlib.Core.Path.{sym, ◌∙◌}
use native.Mathlib.Omega.{arith}
use Rattle.refusals.specs.declared.Refusal.TheVariants.{MaskRange}
use Rattle.refusals.specs.RefusalLaws.{handed_on, done_passed}
use Rattle.refusals.specs.Reduced.{reduced}
use Rattle.refusals.specs.ReducedLaws.{reduced-below}
use Rattle.decapsulation_run.specs.Lent.{input_of}
use Rattle.decapsulation_run.specs.InputLaws.{sheet-steps}
use Rattle.decapsulation_run.proofs.Outcome.{told_row, told_past, told-ran}
use Rattle.decapsulation_run.proofs.told.decapsulate_in.Goals as goal

-- ---- refusals, and the run
pub returns-in_err-range_rows : goal.returns-in_err-range_rows
returns-in_err-range_rows c =
    rw (handed_on c.from_residual.result c.from_residual.ensures.1)
    (told_row _ (sym c.range_rows.ensures.answer ∙ c.in_err-range_rows.was))

pub returns-then-left-steps : goal.returns-then-left-steps
returns-then-left-steps c =
    let a = c.args in
    told_past
    (sym c.range_rows.ensures.answer ∙ c.in_ok-range_rows.was)
    (omega
    (arith, c.if-left-steps.true, sheet-steps a.e a.p (input_of a.input.now) c.requires.0.input, c.steps.ensures.value))

pub run-last-requires : goal.run-last-requires
run-last-requires c =
    let coeffs = c.args.input.now.coeffs.now in
    let done = c.in_ok-range_rows.was in
    record {
      fits = c.requires.0.fits;
      input = c.requires.0.input;
      range =
          reduced-below coeffs
          (done_passed (reduced coeffs) MaskRange _ (sym c.range_rows.ensures.answer ∙ done)).0;
      matrix = c.range_rows.ensures.matrix done;
      out = c.requires.0.out;
    }

pub returns : goal.returns
returns c =
    let a = c.args in
    told-ran
    (sym c.range_rows.ensures.answer ∙ c.in_ok-range_rows.was)
    (omega (
      arith,
      c.if-left-steps.false,
      sheet-steps a.e a.p
          (input_of a.input.now) c.requires.0.input,
      c.steps.ensures.value,
    ))
    c.run-last.ensures
