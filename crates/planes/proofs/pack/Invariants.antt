-- Turn i fills row i with the definition's word, in which And with 32 ones is the remainder by 2^32.
use Prim.Native.Nat.{◌≤◌, ◌-◌}
use lib.ListN.{get_or}
use Rattle.words.specs.Fill.{Filled}
use Rattle.planes.specs.Transposition.{packed}
use Rattle.planes.proofs.pack.Given as goal

-- i rows filled
abbrev pub invariant-loop-i : goal.invariant-loop-i
invariant-loop-i l = (l.i ≤ 32) × Filled 32 (packed (λ k. get_or l.v k 0)) l.i l.w

abbrev pub decreases-loop-i : goal.decreases-loop-i
decreases-loop-i l = 32 - l.i
