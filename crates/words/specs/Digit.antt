-- The bits of a word.
use Rattle.std.specs.Prelude.{ℕ, ◌/◌, ◌%◌, ◌^◌}

-- bit k of x
unfoldable pub digit : ℕ → ℕ → ℕ
digit k x = x / 2 ^ k % 2
