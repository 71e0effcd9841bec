-- The loop is the definition's own: s is the sum of the first term and those entered so far, from the left.
use Prim.Native.Nat.{ℕ, ◌≤◌}
use mathlib.Core.List.{List}
use lib.ListN.{get_or}
use Rattle.worksheet.specs.Ran.{Ran}
use Rattle.masked_sampler.specs.Coefficient.{sums}
use Rattle.masked_sampler.proofs.sampler.sum_terms.Given as goal

-- so many sums entered
abbrev pub invariant-loop-y : goal.invariant-loop-y
invariant-loop-y l = (l.y-index ≤ l.n)
    × ((ws cs : List ℕ) → Ran (sums l.y-index (λ k. get_or l.x k 0)) l.initial.rec ws cs l.s l.rec ws cs)
