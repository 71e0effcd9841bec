-- How long an output is, that its elements are bytes, and which bytes its words have.
use Rattle.std.specs.Prelude.{◌≡◌, refl, List, ℕ, ◌*◌, ◌/◌, ◌%◌, ◌<◌, length, get_or}
use Rattle.std.proofs.Common.{mod-lt, arith}
use Rattle.words.specs.Bounded.{Below}
use Rattle.words.specs.BoundedLaws.{below-tab}
use Rattle.words.specs.Tab.{tab}
use Rattle.words.specs.TabLaws.{length-tab, get_or-tab, tab_cong}
use Rattle.words.specs.Iterate.{iterate}
use Rattle.keccak.specs.KeccakP.{keccak_p}
use Rattle.fips202.specs.Sponge.{padded, absorbed, byte_of, squeezed, sponge, sha3_256, sha3_512, shake256}
use Rattle.fips202.specs.Lanes.{byte_place}
use Rattle.fips202.specs.Words.{sponge_words, sha3_512_words, shake256_words}

-- ---- lengths

pub length_sha3_256 : (m : List ℕ) → length (sha3_256 m) ≡ 32
unfolding sha3_256 sponge squeezed
length_sha3_256 m = length-tab 32 _

pub length_sha3_512_words : (m : List ℕ) → length (sha3_512_words m) ≡ 8
unfolding sha3_512_words
length_sha3_512_words m = length-tab 8 _

pub length-shake256_words : (m : List ℕ) (n : ℕ) → length (shake256_words m n) ≡ n
unfolding shake256_words
length-shake256_words m n = length-tab n _

-- ---- bytes

pub below_sha3_256 : (m : List ℕ) → Below 256 (sha3_256 m)
unfolding sha3_256 sponge squeezed
below_sha3_256 m = below-tab 32 (omega arith) (λ i h. mod-lt _ (omega arith))

-- ---- byte x of the output is byte x % 8 of word x / 8

words_bytes : (rate suffix : ℕ) (m : List ℕ) (n : ℕ) → 0 < rate → rate % 8 ≡ 0
    → tab (8 * n) (byte_of (sponge_words rate suffix m n)) ≡ sponge rate suffix m (8 * n)
unfolding sponge squeezed
words_bytes rate suffix m n h d =
    tab_cong (8 * n) (λ x g.
    let l = rate / 8 in
    let s = absorbed rate (padded rate suffix m) in
    let p = byte_place rate x h d in
    let word : ℕ → ℕ = λ i. get_or (iterate (i / l) (λ _. keccak_p) s) (i % l) 0 in
    rw (get_or-tab n word (x / 8) 0 (omega arith), p.0, p.1, p.2))

pub sha3_512_bytes : (m : List ℕ) → tab 64 (byte_of (sha3_512_words m)) ≡ sha3_512 m
unfolding sha3_512_words sha3_512
sha3_512_bytes m = words_bytes 72 0x06 m 8 (omega arith) refl

pub shake256_bytes : (m : List ℕ) (n : ℕ) → tab (8 * n) (byte_of (shake256_words m n)) ≡ shake256 m (8 * n)
unfolding shake256_words shake256
shake256_bytes m n = words_bytes 136 0x1f m n (omega arith) refl
