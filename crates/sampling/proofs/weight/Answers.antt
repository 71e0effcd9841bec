-- v % 2, v / 2 % 2 and v / 4 % 2 are the three lowest digits of v to the base 2, each at most 1.
use native.Mathlib.Omega.{arith}
use Rattle.words.specs.Numeral.{digits}
use Rattle.sampling.specs.Sample.{sum}
use Rattle.sampling.proofs.weight.Goals as goal

pub returns : goal.returns
unfolding sum digits
returns c = record { count = omega arith; most = omega arith }
