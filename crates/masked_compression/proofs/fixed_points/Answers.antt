-- The loop is the definition's own: the first i numbers of v are the values of the first i entries.
use Prim.Native.Nat.{◌<◌}
use mathlib.Core.Path.{◌≡◌, refl}
use native.Mathlib.Numerals.{add-one}
use native.Mathlib.Omega.{arith}
use lib.ListN.{length, length-set}
use lib.Seq.{take-suc-set, take_all}
use Rattle.worksheet.specs.RanLoops.{times_start, times_turn}
use Rattle.masked_compression.proofs.fixed_points.Goals as goal

-- ---- facts
pub enter_fixed_point-e-requires : goal.enter_fixed_point-e-requires
enter_fixed_point-e-requires c =
    let p = c.requires in
    (p.point, p.group.below.at c.loop-i.i)

pub loop-i-preserved : goal.loop-i-preserved
loop-i-preserved c =
    let l = c.loop-i in
    let i = l.i in
    let h : i < length l.n-items = omega arith in (
      omega arith,
      simp length-set (omega arith),
      λ ws cs.
          rw (add-one i, take-suc-set l.n-items i _ h)
          (rw (add-one i) at (times_turn _ i (l.invariant.2 ws cs) (c.enter_fixed_point-e.ensures ws cs))),
    )

pub returns : goal.returns
returns c ws cs =
    let l = c.loop-i in
    let e : l.i ≡ 64 = omega arith in
    rw (e, take_all 64 l.n-items (omega arith)) at (l.invariant.2 ws cs)

pub loop-i-init : goal.loop-i-init
loop-i-init c = (omega arith, refl, λ ws cs. times_start _)
