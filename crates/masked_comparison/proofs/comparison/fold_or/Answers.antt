-- The loop is the definition's own: j turns of it have run on the first j masks, and each mask has 64 bits as it
-- stands.
use mathlib.Core.Path.{◌≡◌, refl}
use native.Mathlib.Omega.{arith}
use Rattle.words.specs.Word.{ones}
use Rattle.worksheet.specs.Ran.{next_bits}
use Rattle.worksheet.specs.RanLoops.{loop_start, loop_turn}
use Rattle.masked_comparison.specs.Comparison.{fold_or}
use Rattle.masked_comparison.proofs.comparison.fold_or.Goals as goal

-- ---- facts
pub loop-j-init : goal.loop-j-init
unfolding fold_or
loop-j-init c = (omega arith, λ cs. loop_start _ _)

pub loop-j-preserved : goal.loop-j-preserved
unfolding fold_or ones
loop-j-preserved c =
    let j = c.loop-j.j in
    let ws = c.args.ws.now in (
      omega arith,
      λ cs.
          loop_turn _ _ j (c.loop-j.invariant.1 cs)
          (next_bits 64 ws j (record { lt = omega (arith, c.type_inv.ws j) })
          (c.masked_or-o.ensures 64 refl)),
    )

pub returns : goal.returns
returns c cs =
    let e : c.loop-j.j ≡ c.args.n = omega arith in
    rw e at (c.loop-j.invariant.1 cs)
