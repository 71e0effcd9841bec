-- The sponge's output in words of eight bytes, as masked hashes hand it on: of blocks of l lanes, word i is lane i % l
-- of the state that gives block i / l.
use Rattle.std.specs.Prelude.{List, ℕ, ◌/◌, ◌%◌, get_or}
use Rattle.words.specs.Tab.{tab}
use Rattle.words.specs.Iterate.{iterate}
use Rattle.keccak.specs.KeccakP.{keccak_p}
use Rattle.fips202.specs.Sponge.{padded, absorbed}

-- n words for the message m
abbrev pub sponge_words : ℕ → ℕ → List ℕ → ℕ → List ℕ
sponge_words rate suffix m n =
    let l = rate / 8 in
    let s = absorbed rate (padded rate suffix m) in
    tab n (λ i. get_or (iterate (i / l) (λ _. keccak_p) s) (i % l) 0)

unfoldable pub sha3_512_words : List ℕ → List ℕ
sha3_512_words m = sponge_words 72 0x06 m 8

unfoldable pub shake256_words : List ℕ → ℕ → List ℕ
shake256_words m n = sponge_words 136 0x1f m n
