-- A turn fills two rows of o, the even one with the lower word of an exchange and the odd one with the upper.
use Prim.Native.Nat.{◌≤◌, ◌-◌, ◌*◌}
use lib.ListN.{get_or}
use Rattle.words.specs.Fill.{Filled}
use Rattle.planes.specs.Transposition.{stepped}
use Rattle.planes.proofs.step.Given as goal

-- i exchanges made, 2 i rows filled
abbrev pub invariant-loop-i : goal.invariant-loop-i
invariant-loop-i l = (l.i ≤ 16) × Filled 32 (stepped l.s l.m (λ k. get_or l.w k 0)) (2 * l.i) l.o

abbrev pub decreases-loop-i : goal.decreases-loop-i
decreases-loop-i l = 16 - l.i
