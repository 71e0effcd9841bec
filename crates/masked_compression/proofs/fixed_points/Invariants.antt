-- The loop is the definition's own: the first i numbers of v are the values of the first i entries.
use Prim.Native.Nat.{ℕ, ◌≤◌}
use mathlib.Core.Path.{◌≡◌}
use mathlib.Core.List.{List}
use lib.ListN.{length, get_or, take}
use Rattle.worksheet.specs.Prog.{entry, times}
use Rattle.worksheet.specs.Ran.{Ran}
use Rattle.masked_compression.specs.Compression.{fixed_point}
use Rattle.masked_compression.proofs.fixed_points.Given as goal

-- i coefficients entered
abbrev pub invariant-loop-i : goal.invariant-loop-i
invariant-loop-i l = (l.i ≤ 64) × (length l.n-items ≡ 64)
    × ((ws cs : List ℕ)
    → Ran (times l.i (λ k. entry (fixed_point l.d l.h (get_or l.x k 0)))) l.initial.rec ws cs
    (take l.i l.n-items) l.rec ws cs)
