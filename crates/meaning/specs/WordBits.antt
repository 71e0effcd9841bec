-- The bits of words are the bits of their bytes, the lowest first, and bytes are determined by their bits.
use Rattle.std.specs.Prelude.{◌≡◌, refl, List, [], ◌∷◌, ◌++◌, length, get_or}
use Rattle.std.specs.Prelude.{ℕ, zero, suc, ◌+◌, ◌-◌, ◌*◌, ◌/◌, ◌%◌, ◌<◌}
use Rattle.std.proofs.Common.{sym, ap, ap₂, ◌∙◌, arith}
use Rattle.words.specs.Bounded.{Below}
use Rattle.words.specs.Numeral.{digits}
use Rattle.words.specs.NumeralLaws.{digits_split, get_or-digits_append}
use Rattle.words.specs.LittleEndian.{words_to_bytes}
use Rattle.words.specs.Digit.{digit}
use Rattle.words.specs.DigitLaws.{digit_zero}
use Rattle.codec.specs.Bytes.{bits_of, numbers_of}
use Rattle.codec.specs.BytesLaws.{bits_of_append, numbers_of-bits_of}

-- the bits of the n bytes of a number
bits_of-digits : (n x : ℕ) → bits_of 8 (digits 256 n x) ≡ digits 2 (8 * n) x
unfolding bits_of digits
bits_of-digits zero x = refl
bits_of-digits (suc n) x =
    let e : 8 * suc n ≡ 8 + 8 * n = omega arith in
    ap (λ (l : List ℕ). digits 2 8 (x % 256) ++ l) (bits_of-digits n (x / 256))
    ∙ sym (ap (λ (m : ℕ). digits 2 m x) e ∙ digits_split 2 8 (8 * n) x (omega arith))

pub bits_of-words_to_bytes : (n : ℕ) (l : List ℕ) → bits_of 8 (words_to_bytes n l) ≡ bits_of (8 * n) l
unfolding words_to_bytes bits_of
bits_of-words_to_bytes n [] = refl
bits_of-words_to_bytes n (w ∷ l) =
    bits_of_append 8 (digits 256 n w) (words_to_bytes n l)
    ∙ ap₂ (λ (a b : List ℕ). a ++ b) (bits_of-digits n w) (bits_of-words_to_bytes n l)

-- bit i is bit i % d of number i / d
pub get_or-bits_of : (d : ℕ) (l : List ℕ) (i : ℕ) → 0 < d
    → get_or (bits_of d l) i 0 ≡ digit (i % d) (get_or l (i / d) 0)
unfolding bits_of digit
get_or-bits_of d [] i h = sym (digit_zero (i % d))
get_or-bits_of d (x ∷ l) i h = get_or-digits_append 2 d x l (bits_of d l) i h (get_or-bits_of d l (i - d) h)

pub ext_bytes : (l m : List ℕ) → Below 256 l → Below 256 m → length l ≡ length m → bits_of 8 l ≡ bits_of 8 m → l ≡ m
ext_bytes l m a b e h = sym (numbers_of-bits_of 8 l a) ∙ ap₂ (numbers_of 8) e h ∙ numbers_of-bits_of 8 m b
