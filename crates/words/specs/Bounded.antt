-- Lists whose elements are all below a bound. Past its end a list reads as 0, so the bound is positive.
use Rattle.std.specs.Prelude.{List, ℕ, ◌<◌, get_or}

pub record Below (b : ℕ) (l : List ℕ) : Type 0 where
  pub at : (k : ℕ) → get_or l k 0 < b
