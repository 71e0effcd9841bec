-- A list of four elements is the list of its elements 0 to 3, so its value is that of the bytes that are read.
use Rattle.std.proofs.Common.{rules, ◌≡◌, ℕ, List, [], ◌∷◌, length, get_or, refl, sym, ap, ◌∙◌, arith}
use Rattle.std.specs.Int.{from_le_bytes, w32}
use Rattle.words.specs.Tab.{tab}
use Rattle.words.specs.TabLaws.{tab_of}
use Rattle.words.specs.Numeral.{value}
use Rattle.buffers.proofs.little_endian.get_number.Goals as goal

value-of-four : (p : List ℕ) → length p ≡ 4 → value 256 (tab 4 (λ k. get_or p k 0)) ≡ value 256 p
value-of-four p h = ap (value 256) (sym (tab_of 0 p 4 h (λ i _. refl)))

from-four : (a b c d : ℕ) → from_le_bytes w32 (a ∷ b ∷ c ∷ d ∷ []) ≡ value 256 (a ∷ b ∷ c ∷ d ∷ [])
unfolding value
from-four a b c d = omega arith

pub returns : goal.returns
unfolding tab
returns c = c.from_le_bytes.ensures ∙ from-four _ _ _ _ ∙ value-of-four _ (search rules)
