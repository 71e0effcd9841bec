-- A rank of at most 4 has a matrix of at most 4,096 coefficients, which are the room that keygen_in asks for.
use native.Mathlib.Omega.{arith}
use Rattle.parameters.specs.Largest.{matrix_most}
use Rattle.mlkem_keygen.proofs.keygen_sized.Goals as goal

pub overflow_mul-n-2 : goal.overflow_mul-n-2
overflow_mul-n-2 c = record { fits = omega (arith, matrix_most c.requires.0) }

pub slice_bounds-a-end : goal.slice_bounds-a-end
slice_bounds-a-end c = omega (arith, matrix_most c.requires.0)
