-- The code's counts are the lengths that row 1 asks for, in its order.
use mathlib.Core.Path.{sym}
use Rattle.refusals.specs.RefusalLaws.{lengths_tested}
use Rattle.decapsulation_run.specs.Lent.{input_of}
use Rattle.decapsulation.specs.Calls.{lengths}
use Rattle.decapsulation.proofs.Outcome.{wanted}
use Rattle.decapsulation.proofs.lengths.exact_input.Goals as goal

pub returns : goal.returns
returns c =
    let a = c.args in
    sym
    (lengths_tested (lengths a.e a.p (input_of a.input.now)) c.exact.ensures
    (wanted a.e a.p (input_of a.input.now) c.ek_bytes-h.ensures c.ct_bytes.ensures c.strip_words-w.ensures.value
    c.strip_coeffs.ensures.value)).is
