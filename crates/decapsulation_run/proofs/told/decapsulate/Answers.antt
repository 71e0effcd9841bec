-- The matrix's array is cut to as many coefficients as the rank asks for.
use native.Mathlib.Omega.{arith}
use Rattle.parameters.specs.Largest.{matrix_most}
use Rattle.decapsulation_run.proofs.told.decapsulate.Goals as goal

pub overflow_mul-n-2 : goal.overflow_mul-n-2
overflow_mul-n-2 c = record { fits = omega (arith, matrix_most c.requires.fits) }

pub slice_bounds-a-end : goal.slice_bounds-a-end
slice_bounds-a-end c = omega (arith, matrix_most c.requires.fits)
