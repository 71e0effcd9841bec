-- A depth and a rank within the bounds have a small product.
use native.Mathlib.Omega.{arith}
use Rattle.parameters.specs.Largest.{depths_most}
use Rattle.parameters.proofs.ct_bytes.Goals as goal

pub overflow_mul-result : goal.overflow_mul-result
overflow_mul-result c = record { fits = omega (arith, depths_most c.requires) }

pub overflow_add-result : goal.overflow_add-result
overflow_add-result c = record { fits = omega (arith, depths_most c.requires) }

pub overflow_mul-result-2 : goal.overflow_mul-result-2
overflow_mul-result-2 c = record { fits = omega (arith, depths_most c.requires) }
