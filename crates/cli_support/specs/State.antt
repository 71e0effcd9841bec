-- The file of a split key of rank k: the split key, its use limit and the count of its uses.
use Rattle.std.specs.Prelude.{◌≡◌, List, ◌++◌, ℕ, ◌+◌, take, drop}
use Rattle.words.specs.Numeral.{value, digits}
use Rattle.split_key.specs.KeyState.{KeyState}
use Rattle.cli_support.specs.Split.{split_length, split_bytes, Unpacked}

-- how many bytes the file holds
abbrev pub state_length : ℕ → ℕ
state_length k = split_length k + 8

-- limit and count, four bytes each
abbrev pub uses_bytes : ℕ → ℕ → List ℕ
uses_bytes limit count = digits 256 4 limit ++ digits 256 4 count

-- what the file holds, in this order
abbrev pub state_bytes : KeyState → List ℕ
state_bytes state = split_bytes state.key ++ uses_bytes state.limit state.count

-- what the file b is read into
pub record StateUnpacked (k : ℕ) (b : List ℕ) (state : KeyState) : Type 0 where
  pub key : Unpacked k (take (split_length k) b) state.key
  pub limit : state.limit ≡ value 256 (take 4 (drop (split_length k) b))
  pub count : state.count ≡ value 256 (drop (split_length k + 4) b)
