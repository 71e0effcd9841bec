-- Turn by turn one number of 2 eta bits is replaced by its coefficient; the others are still as they were.
use Rattle.words.specs.Fill.{Mapped}
use Rattle.sampling.specs.SampleLaws.{centred}
use Rattle.sampling.proofs.centre_all.Given as goal

-- i coefficients done
abbrev pub invariant-loop-x : goal.invariant-loop-x
invariant-loop-x l = Mapped (centred l.eta) 0 l.initial.f l.x-index l.f
