-- The plain adder on bit planes, and that it adds.
use Rattle.std.specs.Prelude.{◌≡◌, eqb}
use Rattle.std.proofs.Math.Path.{sym}
use Rattle.std.proofs.Common.{ap, ◌∙◌, add-one, arith, eqb→eq, shr-shr}
use Prim.Native.Nat.{ℕ, zero, suc, ◌+◌, ◌*◌, ◌/◌, ◌%◌, ◌^◌, ◌<◌, min}
use Rattle.std.specs.Int.Bits.{differ}
use Rattle.words.specs.Word.{xor, and}
use Rattle.words.specs.Bits.{Bits}
use Rattle.words.specs.WordLaws.{xor-bits, and-bits, zero_bits}
use Rattle.words.specs.Digit.{digit}
use Rattle.words.specs.DigitLaws.{digit_lt, digit_zero, digit-xor, digit_and, ext_bits}
use Rattle.words.specs.Plane.{plane}
use Rattle.words.specs.PlaneLaws.{plane-bits, digit-plane}
use Rattle.words.specs.Table.{every}
use Rattle.words.specs.TableLaws.{every_at}

-- the carry into plane j
unfoldable pub plain_carry : (ℕ → ℕ) → (ℕ → ℕ) → ℕ → ℕ
plain_carry x y zero = 0
plain_carry x y (suc j) = xor (x j) (and (xor (x j) (y j)) (xor (x j) (plain_carry x y j)))

abbrev pub plain_sum : (ℕ → ℕ) → (ℕ → ℕ) → ℕ → ℕ
plain_sum x y j = xor (xor (x j) (y j)) (plain_carry x y j)

-- three bits are added
abbrev carry_bit : ℕ → ℕ → ℕ → ℕ
carry_bit a b c = differ a (min (differ a b) (differ a c))

abbrev sum_bit : ℕ → ℕ → ℕ → ℕ
sum_bit a b c = differ (differ a b) c

add_bits : (a b c : ℕ) → a < 2 → b < 2 → c < 2 → carry_bit a b c * 2 + sum_bit a b c ≡ a + b + c
add_bits a b c f g h =
    eqb→eq _ _
    (every_at 2 (λ z. eqb (carry_bit a b z * 2 + sum_bit a b z) (a + b + z))
    (every_at 2 (λ y. every 2 (λ z. eqb (carry_bit a y z * 2 + sum_bit a y z) (a + y + z)))
    (every_at 2
    (λ x. every 2 (λ y. every 2 (λ z. eqb (carry_bit x y z * 2 + sum_bit x y z) (x + y + z)))) tt a f) b g) c h)

module _ (k x y c : ℕ) where
  add-digits :
      digit k (xor x (and (xor x y) (xor x c))) * 2 + digit k (xor (xor x y) c) ≡ digit k x + digit k y + digit k c
  add-digits =
      simp (digit-xor, digit_and)
      (add_bits (digit k x) (digit k y) (digit k c) (digit_lt k x) (digit_lt k y) (digit_lt k c))

halves : (s p r a b c c' t : ℕ) → s ≡ p + r + c → c' * 2 + t ≡ a + b + c → a ≡ p % 2 → b ≡ r % 2 → t < 2
    → (s / 2 ≡ p / 2 + r / 2 + c') × (s % 2 ≡ t)
halves s p r a b c c' t e f g h l = (omega arith, omega arith)

div_suc : (x j : ℕ) → x / 2 ^ suc j ≡ x / 2 ^ j / 2
div_suc x j = ap (λ (n : ℕ). x / 2 ^ n) (sym (add-one j)) ∙ sym (shr-shr x j 1)

module _ (m : ℕ) (v w : ℕ → ℕ) where
  plain_carry-bits : (j : ℕ) → Bits m (plain_carry (plane m v) (plane m w) j)
  unfolding plain_carry
  plain_carry-bits zero = zero_bits
  plain_carry-bits (suc j) =
      let a = plane-bits m v j in
      xor-bits a (and-bits (xor-bits a (plane-bits m w j)) (xor-bits a (plain_carry-bits j)))

  -- the numbers above place j, and the carry into it
  abbrev Above : ℕ → ℕ → Type 0
  Above i j = (v i + w i) / 2 ^ j ≡ v i / 2 ^ j + w i / 2 ^ j + digit i (plain_carry (plane m v) (plane m w) j)

  turn : (i j : ℕ) → i < m → Above i j
      → Above i (suc j) × (digit i (plain_sum (plane m v) (plane m w) j) ≡ digit j (v i + w i))
  unfolding plain_carry digit
  turn i j h e =
      let x = plane m v j in
      let y = plane m w j in
      let c = plain_carry (plane m v) (plane m w) j in
      let r =
      halves ((v i + w i) / 2 ^ j) (v i / 2 ^ j) (w i / 2 ^ j) (digit i x) (digit i y) (digit i c)
      (digit i (xor x (and (xor x y) (xor x c)))) (digit i (xor (xor x y) c)) e
      (add-digits i x y c) (digit-plane m v i j h) (digit-plane m w i j h) (digit_lt i (xor (xor x y) c)) in
      (rw (div_suc (v i + w i) j, div_suc (v i) j, div_suc (w i) j) r.0, sym r.1)

  above : (i j : ℕ) → i < m → Above i j
  unfolding plain_carry
  above i zero h = rw (digit_zero i) (omega arith)
  above i (suc j) h = (turn i j h (above i j h)).0

  pub plane_add : (j : ℕ) → plain_sum (plane m v) (plane m w) j ≡ plane m (λ i. v i + w i) j
  plane_add j =
      ext_bits (xor-bits (xor-bits (plane-bits m v j) (plane-bits m w j)) (plain_carry-bits j))
      (plane-bits m (λ i. v i + w i) j)
      (λ i h. (turn i j h (above i j h)).1 ∙ sym (digit-plane m (λ i. v i + w i) i j h))
