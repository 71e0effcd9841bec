-- The bounds within which the code and the laws about the worksheet hold, for any parameter set.
use Rattle.std.specs.Prelude.{ℕ, ◌≤◌}
use Rattle.parameters.specs.declared.Parameters.{Parameters}

pub record Within (low high n : ℕ) : Type 0 where
  pub least : low ≤ n
  pub most : n ≤ high

pub record Fits (p : Parameters) : Type 0 where
  pub rank : Within 2 4 p.k
  pub eta1 : Within 1 3 p.eta1
  pub eta2 : Within 1 3 p.eta2
  pub du : Within 1 11 p.du
  pub dv : Within 1 5 p.dv
