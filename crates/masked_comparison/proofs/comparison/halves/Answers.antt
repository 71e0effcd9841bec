-- The loop is the definition's own: j turns of it have run on the first j masks, and the code's width at turn j is the
-- definition's.
use mathlib.Core.Path.{◌≡◌}
use native.Mathlib.Omega.{arith}
use Rattle.worksheet.specs.Ran.{next_word}
use Rattle.worksheet.specs.RanLoops.{loop_start, loop_turn}
use Rattle.masked_comparison.specs.Comparison.{halves}
use Rattle.masked_comparison.proofs.comparison.halves.Goals as goal

pub loop-j-preserved : goal.loop-j-preserved
loop-j-preserved c =
    let j = c.loop-j.j in
    let ws = c.args.ws.now in (
      omega arith,
      λ cs.
          loop_turn _ _ j (c.loop-j.invariant.1 cs)
          (next_word ws j (rw (← c.half_width.ensures.0) c.halve-o.ensures)),
    )

pub returns : goal.returns
unfolding halves
returns c cs = let l = c.loop-j in let e : l.j ≡ 6 = omega arith in rw e at (l.invariant.1 cs)

pub loop-j-init : goal.loop-j-init
loop-j-init c = (omega arith, λ cs. loop_start _ _)
