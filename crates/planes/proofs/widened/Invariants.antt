-- Turn i fills place i with coefficient i, whose value the wider word keeps.
use Prim.Native.Nat.{◌≤◌, ◌-◌}
use lib.ListN.{get_or}
use Rattle.words.specs.Fill.{Filled}
use Rattle.planes.proofs.widened.Given as goal

-- i places filled
abbrev pub invariant-loop-i : goal.invariant-loop-i
invariant-loop-i l = (l.i ≤ 64) × Filled 64 (λ k. get_or l.f k 0) l.i l.v

abbrev pub decreases-loop-i : goal.decreases-loop-i
decreases-loop-i l = 64 - l.i
