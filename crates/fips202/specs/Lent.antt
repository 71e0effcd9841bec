-- What the sponge asks of its numbers: a rate of whole lanes, at most the state's 200 bytes, and a suffix that leaves
-- room for the padding's first bit.
use Rattle.std.specs.Prelude.{◌≡◌, ℕ, ◌%◌, ◌<◌, ◌≤◌}

pub record SpongeFits (rate suffix : ℕ) : Type 0 where
  pub positive : 0 < rate
  pub fits : rate ≤ 200
  pub whole : rate % 8 ≡ 0
  pub short : suffix < 128
