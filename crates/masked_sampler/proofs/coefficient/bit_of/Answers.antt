-- A number moved down by j places, modulo 2, is its digit j by definition, and a digit is below 2.
use mathlib.Core.Path.{refl}
use Rattle.words.specs.Digit.{digit}
use Rattle.words.specs.DigitLaws.{digit_lt}
use Rattle.masked_sampler.proofs.coefficient.bit_of.Goals as goal

pub returns : goal.returns
unfolding digit
returns c =
    let a = c.args in
    record { is = refl; bits = record { bit0 = digit_lt a.j a.w.s0; bit1 = digit_lt a.j a.w.s1 } }
