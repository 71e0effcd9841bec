-- SHAKE's output is a stream: a longer output begins with every shorter one.
use Rattle.std.specs.Prelude.{◌≡◌, List, ℕ, ◌+◌, length, take}
use Rattle.std.proofs.Common.{ap, ◌∙◌, take_at}
use Rattle.words.specs.TabLaws.{tab_add, length-tab}
use Rattle.fips202.specs.Sponge.{squeezed, sponge, shake128, shake256}

length-sponge : (rate suffix : ℕ) (m : List ℕ) (d : ℕ) → length (sponge rate suffix m d) ≡ d
unfolding sponge squeezed
length-sponge rate suffix m d = length-tab d _

sponge_longer : (rate suffix : ℕ) (m : List ℕ) (n d : ℕ)
    → take n (sponge rate suffix m (n + d)) ≡ sponge rate suffix m n
unfolding sponge squeezed
sponge_longer rate suffix m n d = ap (take n) (tab_add n d _) ∙ take_at _ _ n (length-tab n _)

pub length-shake128 : (m : List ℕ) (d : ℕ) → length (shake128 m d) ≡ d
unfolding shake128
length-shake128 m d = length-sponge 168 0x1f m d

pub shake128_longer : (m : List ℕ) (n d : ℕ) → take n (shake128 m (n + d)) ≡ shake128 m n
unfolding shake128
shake128_longer = sponge_longer 168 0x1f

pub shake256_longer : (m : List ℕ) (n d : ℕ) → take n (shake256 m (n + d)) ≡ shake256 m n
unfolding shake256
shake256_longer = sponge_longer 136 0x1f
