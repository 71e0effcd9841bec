-- Refusal 9 (document 02, ask 2), tried before all others: what a call that is told a rank answers and leaves.
use Rattle.std.specs.Prelude.{◌≡◌, true, false, ℕ}
use Rattle.refusals.specs.declared.Refusal.TheVariants.{NoSuchRank}
use Rattle.refusals.specs.Refusals.{refusal_number}
use Rattle.parameters.specs.declared.Parameters.{Parameters}
use Rattle.parameters.specs.Ranks.{is_rank, of_rank}

-- n is the answer's number; Call says what is so of the call with a parameter set, Kept that each lent buffer holds
-- what it held
pub record ByRank (rank n : ℕ) (Call : Parameters → Type 0) (Kept : Type 0) : Type 0 where
  pub called : is_rank rank ≡ true → Call (of_rank rank)
  pub refused : is_rank rank ≡ false → (n ≡ refusal_number NoSuchRank) × Kept
