-- Bit planes: n values, of which plane j holds bit j of each.
use Rattle.std.specs.Prelude.{ℕ}
use Rattle.words.specs.Tab.{tab}
use Rattle.words.specs.Numeral.{value}
use Rattle.words.specs.Digit.{digit}

-- plane j of n values: its bit i is bit j of value i
unfoldable pub plane : ℕ → (ℕ → ℕ) → ℕ → ℕ
plane n v j = value 2 (tab n (λ i. digit j (v i)))
