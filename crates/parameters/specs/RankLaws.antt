-- The set of a rank is one of the three: what is so of each of them is so of it.
use Rattle.std.specs.Prelude.{Bool, true, false, cond, ℕ, eqb}
use Rattle.parameters.specs.declared.Parameters.{Parameters}
use Rattle.parameters.specs.Sets.{ml_kem512, ml_kem768, ml_kem1024}
use Rattle.parameters.specs.Ranks.{of_rank}

pub each_set : (P : Parameters → Type 0) → P ml_kem512 → P ml_kem768 → P ml_kem1024 → (rank : ℕ) → P (of_rank rank)
each_set P at512 at768 at1024 rank = go (eqb rank 2) (eqb rank 3)
  where
    go : (b c : Bool) → P (cond b ml_kem512 (cond c ml_kem768 ml_kem1024))
    go true c = at512
    go false true = at768
    go false false = at1024
