-- What the functions of FIPS 203's section 4.2.2 ask of their numbers and slices.
use Rattle.std.specs.Prelude.{◌≡◌, List, ℕ, ◌*◌, ◌^◌, ◌<◌, ◌≤◌, length}

-- Algorithm 8, lines 3 to 5, of the 2 eta bits of v
pub record CentredInput (v eta : ℕ) : Type 0 where
  pub most : eta ≤ 3
  pub below : v < 2 ^ (2 * eta)

-- Algorithm 8, SamplePolyCBD_eta, from b to f
pub record CbdInput (b : List ℕ) (eta : ℕ) (f : List ℕ) : Type 0 where
  pub bytes : length b ≡ 64 * eta
  pub polynomial : length f ≡ 256
  pub some : 0 < eta
  pub most : eta ≤ 3
