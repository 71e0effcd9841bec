-- A list of two elements is the list of its elements 0 to 1, so its value is that of the bytes that are read.
use Rattle.std.proofs.Common.{rules, ◌≡◌, ℕ, List, [], ◌∷◌, length, get_or, refl, sym, ap, ◌∙◌, arith}
use Rattle.std.specs.Int.{from_le_bytes, w16}
use Rattle.words.specs.Tab.{tab}
use Rattle.words.specs.TabLaws.{tab_of}
use Rattle.words.specs.Numeral.{value}
use Rattle.buffers.proofs.little_endian.coefficient.Goals as goal

value-of-two : (p : List ℕ) → length p ≡ 2 → value 256 (tab 2 (λ k. get_or p k 0)) ≡ value 256 p
value-of-two p h = ap (value 256) (sym (tab_of 0 p 2 h (λ i _. refl)))

from-two : (a b : ℕ) → from_le_bytes w16 (a ∷ b ∷ []) ≡ value 256 (a ∷ b ∷ [])
unfolding value
from-two a b = omega arith

pub returns : goal.returns
unfolding tab
returns c = c.from_le_bytes.ensures ∙ from-two _ _ ∙ value-of-two _ (search rules)
