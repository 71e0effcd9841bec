-- What the function that makes the seeds asks.
use Rattle.std.specs.Prelude.{◌≡◌, List, ℕ, length}
use Rattle.parameters.specs.declared.Parameters.{Parameters}
use Rattle.parameters.specs.Fits.{Fits}

module _ (p : Parameters) where
  -- the seed d₀, with room for rho || sigma in g₀
  pub record SeedsInput (d₀ g₀ : List ℕ) : Type 0 where
    pub fits : Fits p
    pub d : length d₀ ≡ 32
    pub room : length g₀ ≡ 64
