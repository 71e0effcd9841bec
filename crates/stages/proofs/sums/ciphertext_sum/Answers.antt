-- A rank of four at most and bounded terms have a bounded sum.
use native.Mathlib.Omega.{arith}
use native.Mathlib.Nat.{mul-le-mul}
use mathlib.Core.Path.{refl}
use Rattle.stages.proofs.sums.ciphertext_sum.Goals as goal

pub returns : goal.returns
returns c = record { value = refl; upper_bound = omega (arith, mul-le-mul c.requires.0 c.requires.1, c.requires.2) }

pub overflow_mul-result : goal.overflow_mul-result
overflow_mul-result c = record { fits = omega (arith, mul-le-mul c.requires.0 c.requires.1) }

pub overflow_add-result : goal.overflow_add-result
overflow_add-result c = record { fits = omega (arith, mul-le-mul c.requires.0 c.requires.1) }
