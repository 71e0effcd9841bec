-- Each turn enters the next element, so the turns are the entries of the first elements.
use mathlib.Core.Path.{◌≡◌}
use native.Mathlib.Numerals.{add-one}
use native.Mathlib.Omega.{arith}
use lib.ListN.{length}
use lib.Seq.{take-suc, take_all}
use Rattle.worksheet.specs.RanLoops.{times_start, times_turn}
use Rattle.masked_polynomials.proofs.passes.enter_share.Goals as goal

pub loop-x-preserved : goal.loop-x-preserved
loop-x-preserved c =
    let f = c.args.f.now in
    let l = c.loop-x in
    let i = l.x-index in (
      omega arith,
      λ ws cs.
          rw (add-one i, take-suc f i 0 (omega arith))
          (rw (add-one i) at (times_turn _ i (l.invariant.1 ws cs) (c.enter-rec.ensures ws cs))),
    )

pub returns : goal.returns
returns c ws cs =
    let f = c.args.f.now in
    let l = c.loop-x in
    let e : l.x-index ≡ length f = omega arith in
    rw (e, take_all (length f) f (omega arith)) at (l.invariant.1 ws cs)

pub loop-x-init : goal.loop-x-init
loop-x-init c = (omega arith, λ ws cs. times_start _)
