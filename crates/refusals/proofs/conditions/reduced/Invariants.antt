-- After i turns `all` is the test of the first i coefficients: one more coefficient is one more factor at its end.
use mathlib.Core.Path.{◌≡◌}
use mathlib.Core.Bool.{Bool}
use mathlib.Core.List.{List}
use Prim.Native.Nat.{ℕ, ◌≤◌}
use lib.ListN.{length, take}
use Rattle.refusals.specs.Reduced.{reduced}
use Rattle.refusals.proofs.conditions.reduced.Given as goal

-- ---- the loop
-- i coefficients tested
pub record Tested (f : List ℕ) (all : Bool) (i : ℕ) : Type 0 where
  pub within : i ≤ length f
  pub is : all ≡ reduced (take i f)

abbrev pub invariant-loop-x : goal.invariant-loop-x
invariant-loop-x l = Tested l.f l.all l.x-index
