-- Each turn enters the next element, so the turns are the entries of the first elements.
use Prim.Native.Nat.{ℕ, ◌≤◌}
use mathlib.Core.List.{List}
use lib.ListN.{length, get_or, take}
use Rattle.worksheet.specs.Pass.{entries}
use Rattle.worksheet.specs.Ran.{Ran}
use Rattle.masked_polynomials.proofs.passes.enter_share.Given as goal

-- so many elements entered
abbrev pub invariant-loop-x : goal.invariant-loop-x
invariant-loop-x l = (l.x-index ≤ length l.f)
    × ((ws cs : List ℕ)
    → Ran (entries l.x-index (λ k. get_or l.f k 0)) l.initial.rec ws cs (take l.x-index l.f) l.rec ws cs)
