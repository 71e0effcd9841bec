-- Two entries a turn, of one root: gamma (2 j) is zeta (64 + j), and gamma (2 j + 1) is its negative.
use mathlib.Core.Path.{◌≡◌}
use Prim.Native.Nat.{◌-◌, ◌*◌}
use lib.ListN.{length}
use Rattle.words.specs.Fill.{Filled}
use Rattle.transform.specs.Transform.{gamma}
use Rattle.transform.proofs.multiply.gammas_of.Given as goal

-- 2 j entries made
abbrev pub invariant-loop-j : goal.invariant-loop-j
invariant-loop-j l = (length l.zetas ≡ 128) × Filled 128 gamma (2 * l.j) l.gammas

abbrev pub decreases-loop-j : goal.decreases-loop-j
decreases-loop-j l = 64 - l.j
