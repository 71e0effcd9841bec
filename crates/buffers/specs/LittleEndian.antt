-- Numbers of n bytes each, the lowest byte first.
use Rattle.std.specs.Prelude.{◌≡◌, List, ◌++◌, ℕ, ◌+◌, ◌-◌, ◌*◌, ◌/◌, ◌%◌, ◌^◌, length, get_or, take, drop}
use Rattle.std.proofs.Common.{ap₂, ◌∙◌, arith, length-append}
use Rattle.words.specs.Numeral.{value}
use Rattle.words.specs.Tab.{tab}
use Rattle.words.specs.LittleEndian.{words_to_bytes}
use Rattle.words.specs.LittleEndianLaws.{length-words_to_bytes}

-- number i of those that the bytes b hold
abbrev pub number_at : ℕ → List ℕ → ℕ → ℕ
number_at n b i = value 256 (take n (drop (n * i) b))

-- the first m of them
unfoldable pub numbers : ℕ → ℕ → List ℕ → List ℕ
numbers n m b = tab m (number_at n b)

-- those of the w bytes from a to e
pub numbers_part : (n a e w : ℕ) (b : List ℕ) {m k : ℕ} {l : List ℕ} → l ≡ numbers n m (take (e - a) (drop a b))
    → m ≡ k → e ≡ a + w → l ≡ numbers n k (take w (drop a b))
numbers_part n a e w b h f g =
    let d : e - a ≡ w = omega arith in
    h ∙ ap₂ (λ (x y : ℕ). numbers n x (take y (drop a b))) f d

-- byte i of the numbers l, all of whose bytes are words_to_bytes n l
abbrev pub byte_at : ℕ → List ℕ → ℕ → ℕ
byte_at n l i = get_or l (i / n) 0 / 256 ^ (i % n) % 256

pub length_bytes_two : (n : ℕ) (l m : List ℕ)
    → length (words_to_bytes n l ++ words_to_bytes n m) ≡ n * length l + n * length m
length_bytes_two n l m =
    length-append (words_to_bytes n l) (words_to_bytes n m)
    ∙ ap₂ (λ (x y : ℕ). x + y) (length-words_to_bytes n l) (length-words_to_bytes n m)
