-- The loop is the definition's own: j turns of it have run on the first j masks, and each mask has 64 bits as it
-- stands.
use Prim.Native.Nat.{ℕ, ◌≤◌}
use mathlib.Core.List.{List}
use lib.ListN.{drop}
use Rattle.worksheet.specs.Ran.{Ran}
use Rattle.masked_comparison.specs.Comparison.{fold_or}
use Rattle.worksheet.specs.SharedList.{shared_list, shared_at}
use Rattle.masked_comparison.proofs.comparison.fold_or.Given as goal

-- j words folded into the first, j masks drawn
abbrev pub invariant-loop-j : goal.invariant-loop-j
invariant-loop-j l = (l.j ≤ l.n)
    × ((cs : List ℕ)
    → Ran (fold_or l.j (shared_at (shared_list l.w0 l.w1))) l.initial.rec l.ws cs l.acc l.rec (drop l.j l.ws) cs)
