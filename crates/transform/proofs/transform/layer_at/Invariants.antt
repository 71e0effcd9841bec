-- One block a turn, each with the root that the table holds for it, by the law of layers that the transform and its
-- inverse share.
use Prim.Native.Nat.{◌-◌}
use Rattle.transform.proofs.Layers.{Layered}
use Rattle.transform.proofs.transform.layer_at.Given as goal

-- b blocks done
abbrev pub invariant-loop-b : goal.invariant-loop-b
invariant-loop-b g l = Layered g.D.Direction.pair g.D.Direction.entry l.zetas l.k l.len l.initial.f l.b l.f

abbrev pub decreases-loop-b : goal.decreases-loop-b
decreases-loop-b g l = l.k - l.b
