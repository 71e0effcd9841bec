-- The bits of planes.
use Rattle.std.specs.Prelude.{◌≡◌, List, [], ◌∷◌, ℕ, zero, suc, ◌<◌, get_or}
use Rattle.std.proofs.Common.{sym, ap, ◌∙◌, arith}
use Rattle.words.specs.Bits.{Bits}
use Rattle.words.specs.Tab.{tab}
use Rattle.words.specs.TabLaws.{length-tab, get_or-tab, tab_cong}
use Rattle.words.specs.Bounded.{Below}
use Rattle.words.specs.BoundedLaws.{below_head, below_tail, below-tab}
use Rattle.words.specs.Numeral.{value}
use Rattle.words.specs.NumeralLaws.{value_lt, value_head, value_tail}
use Rattle.words.specs.Digit.{digit}
use Rattle.words.specs.DigitLaws.{digit_lt, digit_zero, digit_low, digit_half}
use Rattle.words.specs.Plane.{plane}

pub plane_cong : (n j k : ℕ) (v w : ℕ → ℕ) → ((i : ℕ) → i < n → digit j (v i) ≡ digit k (w i))
    → plane n v j ≡ plane n w k
unfolding plane
plane_cong n j k v w e = ap (value 2) (tab_cong n e)

-- the digits of a number given by its bits
digit_value : (l : List ℕ) → Below 2 l → (i : ℕ) → digit i (value 2 l) ≡ get_or l i 0
unfolding value
digit_value [] h i = digit_zero i
digit_value (x ∷ l) h zero = digit_low _ ∙ value_head (value 2 l) (below_head h)
digit_value (x ∷ l) h (suc i) =
    ap (λ (k : ℕ). digit k (value 2 (x ∷ l))) (omega arith)
    ∙ sym (digit_half i (value 2 (x ∷ l)))
    ∙ ap (digit i) (value_tail (value 2 l) (below_head h))
    ∙ digit_value l (below_tail h) i

module _ (n : ℕ) (v : ℕ → ℕ) where
  planes_below : (j : ℕ) → Below 2 (tab n (λ i. digit j (v i)))
  planes_below j = below-tab n (omega arith) (λ i h. digit_lt j (v i))

  pub plane-bits : (j : ℕ) → Bits n (plane n v j)
  unfolding plane
  plane-bits j =
      let l = tab n (λ i. digit j (v i)) in
      record { lt = rw (length-tab n (λ i. digit j (v i))) at (value_lt 2 l (planes_below j)) }

  pub digit-plane : (i j : ℕ) → i < n → digit i (plane n v j) ≡ digit j (v i)
  unfolding plane
  digit-plane i j h =
      digit_value (tab n (λ i. digit j (v i))) (planes_below j) i ∙ get_or-tab n (λ i. digit j (v i)) i 0 h
