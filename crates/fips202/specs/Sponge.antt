-- FIPS 202, sections 4 to 6, on bytes. A byte's lowest bit comes first (appendix B.1), so byte j of the state is byte
-- j % 8 of lane j / 8.
use Rattle.std.specs.Prelude.{ℕ, zero, suc, ◌+◌, ◌-◌, ◌*◌, ◌/◌, ◌%◌, ◌^◌}
use Rattle.std.specs.Prelude.{List, [], ◌∷◌, ◌++◌, get_or, length, take, drop, replicate}
use Rattle.words.specs.Word.{xor}
use Rattle.words.specs.Tab.{tab}
use Rattle.words.specs.Iterate.{iterate}
use Rattle.words.specs.Numeral.{value}
use Rattle.keccak.specs.KeccakP.{keccak_p}

-- ---- Algorithm 9, pad10*1, in whole bytes: one, which begins with the suffix, and so many more (appendix B.2)
abbrev pub padding : ℕ → ℕ → List ℕ
padding suffix zero = (suffix + 0x80) ∷ []
padding suffix (suc z) = suffix ∷ (replicate z 0 ++ 0x80 ∷ [])

-- up to the end of a block
unfoldable pub padded : ℕ → ℕ → List ℕ → List ℕ
padded rate suffix m = m ++ padding suffix (rate - 1 - length m % rate)

-- ---- Algorithm 8, SPONGE: rate bytes are taken in or given out with each permutation

-- lane j of a string of bytes
abbrev pub lane_of : List ℕ → ℕ → ℕ
lane_of p j = value 256 (take 8 (drop (8 * j) p))

-- step 6: S xor (P || 0..0)
unfoldable pub mixed : List ℕ → List ℕ → List ℕ
mixed p s = tab 25 (λ j. xor (get_or s j 0) (lane_of p j))

-- steps 1 to 6, for the padded message p
unfoldable pub absorbed : ℕ → List ℕ → List ℕ
absorbed rate p = iterate (length p / rate) (λ i s. keccak_p (mixed (take rate (drop (i * rate) p)) s)) (replicate 25 0)

-- byte j of the state
abbrev pub byte_of : List ℕ → ℕ → ℕ
byte_of s j = get_or s (j / 8) 0 / 256 ^ (j % 8) % 256

-- steps 7 to 10: d bytes of output, from the state s
unfoldable pub squeezed : ℕ → List ℕ → ℕ → List ℕ
squeezed rate s d = tab d (λ i. byte_of (iterate (i / rate) (λ _. keccak_p) s) (i % rate))

unfoldable pub sponge : ℕ → ℕ → List ℕ → ℕ → List ℕ
sponge rate suffix m d = squeezed rate (absorbed rate (padded rate suffix m)) d

-- ---- Section 5.2, KECCAK[c], for the capacity c in bits and an output of d bytes
abbrev pub keccak : ℕ → ℕ → List ℕ → ℕ → List ℕ
keccak c suffix m d = sponge ((1600 - c) / 8) suffix m d

-- ---- Section 6.1: the suffix 01 and pad10*1's first bit
unfoldable pub sha3_256 : List ℕ → List ℕ
sha3_256 m = keccak 512 0x06 m 32

unfoldable pub sha3_512 : List ℕ → List ℕ
sha3_512 m = keccak 1024 0x06 m 64

-- ---- Section 6.2: the suffix 1111 and pad10*1's first bit
unfoldable pub shake128 : List ℕ → ℕ → List ℕ
shake128 m d = keccak 256 0x1f m d

unfoldable pub shake256 : List ℕ → ℕ → List ℕ
shake256 m d = keccak 512 0x1f m d
