-- What the functions ask of a count of planes n and the masks lent to them.
use Rattle.std.specs.Prelude.{List, ℕ, ◌-◌, ◌<◌, ◌≤◌, length}
use Rattle.masked_adder.specs.Adder.{adder_words}

pub record AdderLent (n : ℕ) (ws : List ℕ) : Type 0 where
  pub positive : 0 < n
  pub fits : n ≤ 24
  pub masks : adder_words n ≤ length ws

pub record CarriesLent (n : ℕ) (ws : List ℕ) : Type 0 where
  pub positive : 0 < n
  pub fits : n ≤ 24
  pub masks : n - 1 ≤ length ws
