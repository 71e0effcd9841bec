-- Turn i enters part i of both shares.
use Prim.Native.Nat.{◌*◌}
use mathlib.Core.Path.{◌≡◌}
use native.Mathlib.Omega.{arith}
use Rattle.worksheet.specs.RanLoops.{times_start, times_turn}
use Rattle.worksheet.specs.SharedList.{shared_list}
use Rattle.words.specs.Part.{part_span, length_span}
use Rattle.stages.specs.LayoutLaws.{parts_by_start, parts_by_suc}
use Rattle.masked_polynomials.proofs.passes.enter_polynomials.Goals as goal

pub loop-i-init : goal.loop-i-init
loop-i-init c =
    let s = c.args in
    (omega arith, λ ws cs. rw (parts_by_start (λ t. t) 256 (shared_list s.f.now s.g.now)) (times_start _))

pub enter_both-rec-requires : goal.enter_both-rec-requires
enter_both-rec-requires c =
    let s = c.args in
    let a = 256 * c.loop-i.i in
    omega (arith, length_span a 256 s.f.now (omega arith), length_span a 256 s.g.now (omega arith))

pub loop-i-preserved : goal.loop-i-preserved
loop-i-preserved c =
    let s = c.args in
    let l = c.loop-i in (
      omega arith,
      λ ws cs.
          rw (parts_by_suc (λ t. t) 256 l.i (shared_list s.f.now s.g.now))
          (times_turn _ l.i (l.invariant.1 ws cs)
          (rw (
            length_span (256 * l.i) 256 s.f.now (omega arith),
            part_span (256 * l.i) 256 s.f.now,
            part_span (256 * l.i) 256 s.g.now,
          ) at (c.enter_both-rec.ensures ws cs))),
    )

pub returns : goal.returns
returns c ws cs =
    let l = c.loop-i in
    let e : l.i ≡ c.args.k = omega arith in
    rw e at (l.invariant.1 ws cs)
