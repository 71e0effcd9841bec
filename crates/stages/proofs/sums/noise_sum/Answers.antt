-- A rank of four at most and bounded terms have a bounded sum.
use mathlib.Core.Path.{refl}
use Prim.Native.Nat.{◌+◌, ◌*◌, ◌≤◌}
use native.Mathlib.Nat.{mul-le-mul}
use native.Mathlib.Omega.{arith}
use Rattle.stages.proofs.sums.noise_sum.Goals as goal

module _ (c : goal.Start) where
  first : c.args.k * c.args.y ≤ 4 * 24386
  first = mul-le-mul c.requires.0 c.requires.1

  others : (c.args.k + 1) * c.args.e ≤ 5 * 24386
  others = mul-le-mul {n₂ = 5} (omega (arith, c.requires.0)) c.requires.2

pub overflow_mul-result : goal.overflow_mul-result
overflow_mul-result c = record { fits = omega (arith, first c) }

pub overflow_mul-result-2 : goal.overflow_mul-result-2
overflow_mul-result-2 c = record { fits = omega (arith, others c) }

pub overflow_add-result-2 : goal.overflow_add-result-2
overflow_add-result-2 c = record { fits = omega (arith, first c, others c) }

pub returns : goal.returns
returns c = record { value = refl; upper_bound = omega (arith, first c, others c) }
