-- One block a turn, each with the root that the table holds for it, by the law of layers that the transform and its
-- inverse share.
use borrow.Author.Rules.{rules}
use native.Mathlib.Omega.{arith}
use Rattle.transform.proofs.Layers.{layered_fits, layered_root}
use Rattle.transform.proofs.Layers.{layered_start, layered_turn, layered_end}
use Rattle.transform.proofs.transform.layer_at.Goals as goal

pub loop-b-preserved : goal.loop-b-preserved
loop-b-preserved g c =
    let r = c.root.ensures in
    layered_turn c.loop-b.invariant (omega arith) r.0 r.1 (omega arith) c.block_at.ensures

pub returns : goal.returns
returns g c = layered_end c.loop-b.invariant (omega arith)

pub loop-b-init : goal.loop-b-init
loop-b-init g c = search (rules, layered_start)

pub overflow_mul-b : goal.overflow_mul-b
overflow_mul-b g c = omega (arith, layered_fits c.loop-b.invariant (omega arith))

pub block_at-requires : goal.block_at-requires
block_at-requires g c =
    (layered_fits c.loop-b.invariant (omega arith), layered_root c.loop-b.invariant c.root.ensures.1)
