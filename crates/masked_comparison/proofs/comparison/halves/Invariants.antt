-- The loop is the definition's own: j turns of it have run on the first j masks, and the code's width at turn j is the
-- definition's.
use Prim.Native.Nat.{ℕ, ◌-◌, ◌^◌, ◌≤◌}
use mathlib.Core.List.{List}
use lib.ListN.{drop}
use Rattle.worksheet.specs.Prog.{loop}
use Rattle.worksheet.specs.Ran.{Ran}
use Rattle.masked_comparison.specs.Comparison.{halve}
use Rattle.masked_comparison.proofs.comparison.halves.Given as goal

-- j times halved, j masks drawn
abbrev pub invariant-loop-j : goal.invariant-loop-j
invariant-loop-j l = (l.j ≤ 6)
    × ((cs : List ℕ)
    → Ran (loop l.j (λ k. halve (2 ^ (6 - 1 - k))) l.initial.acc) l.initial.rec l.ws cs l.acc l.rec (drop l.j l.ws) cs)
