-- The bits of a word one by one: what a formula gives at each, and that a word is determined by them.
use Rattle.std.specs.Prelude.{◌≡◌, List, map, ℕ, zero, suc, ◌+◌, ◌-◌, ◌*◌, ◌/◌, ◌%◌, ◌^◌, ◌<◌, ◌≤◌, max, min, get_or}
use Rattle.std.proofs.Common.{sym, ap, ap₂, ◌∙◌, div-add-mod', div-one, mod-lt, arith, shr-shr}
use Rattle.std.proofs.Math.Decide.{dec_lt}
use Rattle.std.proofs.Math.Nat.{div-eq_of_lt, zero-div}
use Rattle.std.proofs.Math.ListN.{get_or-map}
use Rattle.std.proofs.Math.Arith.{half_le}
use Rattle.std.proofs.Math.Pow.{field, mod-mod-pow}
use Rattle.std.specs.Int.Bits.{differ}
use Rattle.words.specs.Word.{xor, and, low}
use Rattle.words.specs.Bits.{Bits}
use Rattle.words.specs.WordLaws.{xor_shift, and_shift, low-xor, bits_mono}
use Rattle.words.specs.Formula.{Formula, at, ◌⊕◌, ◌⊗◌, on_words, on_bits, xor_odd, and_odd}
use Rattle.words.specs.Digit.{digit}

pub digit_lt : (k x : ℕ) → digit k x < 2
unfolding digit
digit_lt k x = mod-lt (x / 2 ^ k) (omega arith)

pub digit_zero : (k : ℕ) → digit k 0 ≡ 0
unfolding digit
digit_zero k = rw zero-div

pub digit_low : (x : ℕ) → digit 0 x ≡ x % 2
unfolding digit
digit_low x = ap (λ (z : ℕ). z % 2) (div-one x)

pub digit_half : (k x : ℕ) → digit k (x / 2) ≡ digit (1 + k) x
unfolding digit
digit_half k x = ap (λ (z : ℕ). z % 2) (shr-shr x 1 k)

pub digit_div : (k m x : ℕ) → digit k (x / 2 ^ m) ≡ digit (m + k) x
unfolding digit
digit_div k m x = ap (λ (z : ℕ). z % 2) (shr-shr x m k)

-- the n lowest digits are those of x modulo 2^n
pub digit_mod : (k n x : ℕ) → k < n → digit k (x % 2 ^ n) ≡ digit k x
unfolding digit
digit_mod k n x h =
    let e : n ≡ n - k - 1 + 1 + k = omega arith in
    rw e (ap (λ (z : ℕ). z % 2) (field x (n - k - 1 + 1) k) ∙ mod-mod-pow (x / 2 ^ k) (n - k - 1) 1)

pub digit-xor : (k x y : ℕ) → digit k (xor x y) ≡ differ (digit k x) (digit k y)
unfolding digit
digit-xor k x y = rw (xor_shift k x y) (xor_odd (x / 2 ^ k) (y / 2 ^ k))

pub digit_and : (k x y : ℕ) → digit k (and x y) ≡ min (digit k x) (digit k y)
unfolding digit
digit_and k x y = rw (and_shift k x y) (and_odd (x / 2 ^ k) (y / 2 ^ k))

-- the bits of two words, joined, are those of the joined words
pub xor-digit : (k x y : ℕ) → xor (digit k x) (digit k y) ≡ digit k (xor x y)
unfolding digit low
xor-digit k x y = sym (low-xor 1 (x / 2 ^ k) (y / 2 ^ k)) ∙ ap (λ (z : ℕ). z % 2) (sym (xor_shift k x y))

digit-formula : (k : ℕ) (e : Formula) (ρ : List ℕ) → digit k (on_words e ρ) ≡ on_bits e (map (digit k) ρ)
digit-formula k (at i) ρ =
    sym (get_or-map (digit k) ρ i 0) ∙ ap (λ (d : ℕ). get_or (map (digit k) ρ) i d) (digit_zero k)
digit-formula k (e ⊕ f) ρ =
    digit-xor k (on_words e ρ) (on_words f ρ) ∙ ap₂ differ (digit-formula k e ρ) (digit-formula k f ρ)
digit-formula k (e ⊗ f) ρ =
    digit_and k (on_words e ρ) (on_words f ρ) ∙ ap₂ min (digit-formula k e ρ) (digit-formula k f ρ)

up_to : (n x y : ℕ) → x ≤ n → y ≤ n → ((k : ℕ) → digit k x ≡ digit k y) → x ≡ y
up_to zero x y h g e = omega arith
up_to (suc n) x y h g e =
    sym (div-add-mod' x 2)
    ∙ ap₂ (λ (a b : ℕ). a * 2 + b)
    (up_to n (x / 2) (y / 2) (half_le h) (half_le g) (λ k. digit_half k x ∙ e (1 + k) ∙ sym (digit_half k y)))
    (sym (digit_low x) ∙ e 0 ∙ digit_low y)
    ∙ div-add-mod' y 2

ext_digit : (x y : ℕ) → ((k : ℕ) → digit k x ≡ digit k y) → x ≡ y
ext_digit x y e = up_to (max x y) x y (omega arith) (omega arith) e

-- of words of n bits the n lowest
pub digit_high : {n x : ℕ} (k : ℕ) → Bits n x → n ≤ k → digit k x ≡ 0
unfolding digit
digit_high k a h = ap (λ (z : ℕ). z % 2) (div-eq_of_lt (bits_mono h a).lt)

pub ext_bits : {n x y : ℕ} → Bits n x → Bits n y → ((k : ℕ) → k < n → digit k x ≡ digit k y) → x ≡ y
ext_bits {n} {x} {y} a b e = ext_digit x y (λ k. go k (dec_lt k n))
  where
    go : (k : ℕ) → Dec (k < n) → digit k x ≡ digit k y
    go k (yes h) = e k h
    go k (no h) = digit_high k a (omega arith) ∙ sym (digit_high k b (omega arith))
