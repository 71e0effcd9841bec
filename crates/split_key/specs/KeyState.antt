-- Document 02, ask 5: a split key with its use limit and the count of its uses, and the limits that are accepted.
use Rattle.std.specs.Prelude.{Bool, ◌&&◌, ℕ, leb}
use Rattle.split_key.specs.SplitKey.{SplitKey}

pub record KeyState : Type 0 where
  pub key : SplitKey
  pub limit : ℕ
  pub count : ℕ

abbrev pub key_state : SplitKey → ℕ → ℕ → KeyState
key_state key limit count = record { key = key; limit = limit; count = count }

abbrev pub is_limit : ℕ → Bool
is_limit limit = leb 1 limit && leb limit 1000000
