-- The accepted ranks (document 02, ask 2), and the parameter set of one; of another number it is the last.
use Rattle.std.specs.Prelude.{Bool, cond, ◌||◌, ℕ, eqb}
use Rattle.parameters.specs.declared.Parameters.{Parameters}
use Rattle.parameters.specs.Sets.{ml_kem512, ml_kem768, ml_kem1024}

abbrev pub is_rank : ℕ → Bool
is_rank n = eqb n 2 || (eqb n 3 || eqb n 4)

abbrev pub of_rank : ℕ → Parameters
of_rank n = cond (eqb n 2) ml_kem512 (cond (eqb n 3) ml_kem768 ml_kem1024)
