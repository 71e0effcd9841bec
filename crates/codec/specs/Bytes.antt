-- FIPS 203, section 4.2.1: numbers as bits and as bytes, the lowest first.
use Rattle.std.specs.Prelude.{List, [], ◌∷◌, ◌++◌, map, ℕ, zero, suc, ◌*◌, ◌%◌, take, drop}
use Rattle.words.specs.Numeral.{value, digits}
use Rattle.words.specs.Residue.{q}

-- the bits of each number, d for each; for bytes, Algorithm 4, BytesToBits
unfoldable pub bits_of : ℕ → List ℕ → List ℕ
bits_of d [] = []
bits_of d (x ∷ l) = digits 2 d x ++ bits_of d l

-- n numbers of d bits each; for bytes, Algorithm 3, BitsToBytes
unfoldable pub numbers_of : ℕ → ℕ → List ℕ → List ℕ
numbers_of d zero b = []
numbers_of d (suc n) b = value 2 (take d b) ∷ numbers_of d n (drop d b)

-- Algorithm 5, ByteEncode_d
unfoldable pub byte_encode : ℕ → List ℕ → List ℕ
byte_encode d f = numbers_of 8 (32 * d) (bits_of d f)

-- Algorithm 6, ByteDecode_d for d < 12
unfoldable pub byte_decode : ℕ → List ℕ → List ℕ
byte_decode d b = numbers_of d 256 (bits_of 8 b)

-- Algorithm 6 at d = 12: its numbers are taken modulo q
unfoldable pub byte_decode12 : List ℕ → List ℕ
byte_decode12 b = map (λ x. x % q) (byte_decode 12 b)
