-- The loop is the definition's own: the first j words have taken their public word and been entered, and the others
-- still stand as they were lent, so that the next turn reads what the definition reads.
use mathlib.Core.Path.{◌≡◌, refl, ◌∙◌}
use native.Mathlib.Omega.{arith}
use lib.ListN.{length, length-set}
use lib.Seq.{get_or-set_other}
use Rattle.worksheet.specs.Ran.{bind, over}
use Rattle.worksheet.specs.RanLoops.{times_start, times_turn}
use Rattle.masked_comparison.specs.Comparison.{add_public}
use Rattle.worksheet.specs.SharedListLaws.{zip_zero, zip_set0}
use Rattle.masked_comparison.proofs.comparison.add_public.Goals as goal

-- ---- facts
pub loop-j-init : goal.loop-j-init
unfolding add_public
loop-j-init c = (omega arith, refl, λ k h. refl, λ w1 ws cs. rw zip_zero (times_start _))

pub loop-j-preserved : goal.loop-j-preserved
unfolding add_public
loop-j-preserved c =
    let l = c.loop-j in
    let v = c.enter_xor-e.result.value in (
      omega arith,
      simp length-set (omega arith),
      λ k h. get_or-set_other l.w0 l.j k v 0 (omega arith) ∙ l.invariant.2 k (omega arith),
      λ w1 ws cs.
          rw (zip_set0 l.w0 w1 l.j v (omega arith))
          (times_turn _ l.j (l.invariant.3 w1 ws cs)
          (rw (← l.invariant.2 l.j (omega arith)) (bind _ (c.enter_xor-e.ensures _ _) over))),
    )

pub returns : goal.returns
returns c w1 ws cs =
    let e : c.loop-j.j ≡ length c.args.c.now = omega arith in
    rw e at (c.loop-j.invariant.3 w1 ws cs)
