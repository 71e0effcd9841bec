-- Turn i puts coefficient i of s at place i of out, so after one turn a place out is s.
use lib.ListN.{length, get_or}
use Rattle.words.specs.Fill.{Filled}
use Rattle.slices.proofs.copy_coefficients.Given as goal

-- i coefficients copied
abbrev pub invariant-loop-i : goal.invariant-loop-i
invariant-loop-i l = Filled (length l.s) (λ k. get_or l.s k 0) l.i l.out
