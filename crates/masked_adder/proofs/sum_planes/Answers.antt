-- The loop is the definition's own: the first i sum planes are made of the planes at the same places, and stand in two
-- arrays.
use mathlib.Core.Path.{refl}
use native.Mathlib.Omega.{arith}
use Rattle.worksheet.specs.Ran.{bind, over}
use Rattle.worksheet.specs.RanLoops.{times_start, times_turn}
use Rattle.worksheet.specs.SharedList.{shared_list}
use Rattle.worksheet.specs.SharedListLaws.{get_d_zip}
use Rattle.worksheet.specs.StoredSharings.{sharings_start, sharings_turn, sharings_end}
use Rattle.masked_adder.specs.Adder.{sum_plane}
use Rattle.masked_adder.proofs.sum_planes.Goals as goal

-- ---- facts
pub loop-i-preserved : goal.loop-i-preserved
unfolding sum_plane
loop-i-preserved c =
    let l = c.loop-i in
    let g = c.args in
    let h = c.loop-i-test.true in
    sharings_turn l.invariant _ _ (omega arith) (λ ws cs.
    times_turn _ l.i (l.invariant.ran ws cs)
    (rw (
      get_d_zip g.n (shared_list g.a.s0 g.a.s1) l.i _ h,
      get_d_zip g.n (shared_list g.b.s0 g.b.s1) l.i _ h,
      get_d_zip g.n (shared_list g.c.s0 g.c.s1) l.i _ h,
    )
    (bind _ (c.enter_xor3-x.ensures _ _) (bind _ (c.enter_xor3-y.ensures _ _) over))))

pub loop-i-init : goal.loop-i-init
loop-i-init c = sharings_start (omega arith) refl refl (λ ws cs. times_start _)

pub returns : goal.returns
returns c = sharings_end c.loop-i.invariant (omega arith)
