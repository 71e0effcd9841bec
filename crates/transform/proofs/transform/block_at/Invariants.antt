-- One pair a turn, by the law of pairs that the transform and its inverse share.
use Prim.Native.Nat.{◌-◌}
use Rattle.transform.proofs.Layers.{Paired}
use Rattle.transform.proofs.transform.block_at.Given as goal

-- j pairs done
abbrev pub invariant-loop-j : goal.invariant-loop-j
invariant-loop-j g l = Paired g.D.Direction.pair l.z l.len l.start l.initial.f l.j l.f

abbrev pub decreases-loop-j : goal.decreases-loop-j
decreases-loop-j g l = l.len - l.j
