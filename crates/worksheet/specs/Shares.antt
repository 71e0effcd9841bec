-- Two shares of a word.
use Rattle.std.specs.Prelude.{ℕ}
use Rattle.worksheet.specs.declared.Shared.{Shared}

abbrev pub Shares : Type 0
Shares = Shared ℕ
