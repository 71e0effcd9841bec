-- Positional numerals to any base, the lowest digit first: bits are to base 2, bytes to base 256.
use Rattle.std.specs.Prelude.{List, [], ◌∷◌, ℕ, zero, suc, ◌+◌, ◌*◌, ◌/◌, ◌%◌}

-- the number with these digits
unfoldable pub value : ℕ → List ℕ → ℕ
value b [] = 0
value b (x ∷ l) = x + value b l * b

-- the n lowest digits of x
unfoldable pub digits : ℕ → ℕ → ℕ → List ℕ
digits b zero x = []
digits b (suc n) x = x % b ∷ digits b n (x / b)
