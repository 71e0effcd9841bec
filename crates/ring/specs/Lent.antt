-- What the ring's functions ask of their numbers.
use Rattle.std.specs.Prelude.{◌≡◌, ℕ, ◌*◌, ◌/◌, ◌^◌, ◌<◌}
use Rattle.words.specs.Residue.{q}

-- a factor z, and Shoup's quotient w of it
pub record Factor (z w : ℕ) : Type 0 where
  pub below : z < q
  pub quotient : w ≡ z * 2 ^ 16 / q
