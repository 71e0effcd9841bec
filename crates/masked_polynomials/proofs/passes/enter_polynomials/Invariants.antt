-- Turn i enters part i of both shares.
use Prim.Native.Nat.{ℕ, ◌≤◌}
use mathlib.Core.List.{List}
use Rattle.worksheet.specs.Pass.{enter_both}
use Rattle.worksheet.specs.Prog.{times}
use Rattle.worksheet.specs.Ran.{Ran}
use Rattle.worksheet.specs.SharedList.{shared_list}
use Rattle.vectors.specs.Vector.{parts}
use Rattle.stages.specs.Layout.{polynomials}
use Rattle.masked_polynomials.proofs.passes.enter_polynomials.Given as goal

-- i polynomials entered
abbrev pub invariant-loop-i : goal.invariant-loop-i
invariant-loop-i l = (l.i ≤ l.k)
    × ((ws cs : List ℕ)
    → Ran (times l.i (λ j. enter_both 256 (parts 256 l.f j) (parts 256 l.g j))) l.initial.rec ws cs
    (polynomials l.i (shared_list l.f l.g)) l.rec ws cs)
