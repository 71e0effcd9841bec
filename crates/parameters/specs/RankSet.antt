-- The parameter set of a rank where it is accepted, else refusal 9 (document 02, ask 2).
use Rattle.std.specs.Prelude.{cond, ℕ, Result, Ok, Err}
use Rattle.refusals.specs.declared.Refusal.{Refusal}
use Rattle.refusals.specs.declared.Refusal.TheVariants.{NoSuchRank}
use Rattle.parameters.specs.declared.Parameters.{Parameters}
use Rattle.parameters.specs.Ranks.{is_rank, of_rank}

abbrev pub set_of : ℕ → Result Parameters Refusal
set_of n = cond (is_rank n) (Ok (of_rank n)) (Err NoSuchRank)
