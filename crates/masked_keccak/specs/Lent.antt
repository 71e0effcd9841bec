-- What a round asks of the table of constants and of the masks that are lent to it.
use Rattle.std.specs.Prelude.{◌≡◌, List, ℕ, ◌<◌, ◌≤◌, length}
use Rattle.words.specs.Tab.{tab}
use Rattle.keccak_constants.specs.RoundConstants.{constant}
use Rattle.masked_keccak.specs.MaskedKeccak.{round_words}

-- for round i
pub record RoundLent (constants : List ℕ) (i : ℕ) (ws : List ℕ) : Type 0 where
  pub inside : i < 24
  pub table : constants ≡ tab 24 constant
  pub masks : round_words ≤ length ws
