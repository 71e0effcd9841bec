-- The loop is the definition's own: the first j words have taken their public word and been entered, and the others
-- still stand as they were lent, so that the next turn reads what the definition reads.
use Prim.Native.Nat.{ℕ, ◌≤◌}
use mathlib.Core.Path.{◌≡◌}
use mathlib.Core.List.{List}
use lib.ListN.{length, get_or}
use Rattle.worksheet.specs.Ran.{Ran}
use Rattle.masked_comparison.specs.Comparison.{add_public}
use Rattle.worksheet.specs.SharedList.{shared_list, shared_at}
use Rattle.worksheet.specs.Zip.{zip}
use Rattle.masked_comparison.proofs.comparison.add_public.Given as goal

-- j words added, of share 0; share 1 is any list w1
abbrev pub invariant-loop-j : goal.invariant-loop-j
invariant-loop-j l = (l.j ≤ length l.c) × (length l.w0 ≡ length l.initial.w0)
    × ((k : ℕ) → l.j ≤ k → get_or l.w0 k 0 ≡ get_or l.initial.w0 k 0)
    × ((w1 ws cs : List ℕ)
    → Ran (add_public l.j (λ k. get_or l.c k 0) (shared_at (shared_list l.initial.w0 w1))) l.initial.rec ws cs
    (zip l.j (shared_list l.w0 w1)) l.rec ws cs)
