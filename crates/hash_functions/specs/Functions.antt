-- FIPS 203, section 4.1: the functions made of FIPS 202's hashes.
use Rattle.std.specs.Prelude.{List, [], ◌∷◌, ◌++◌, ℕ, ◌*◌, take, drop}
use Rattle.fips202.specs.Sponge.{sha3_256, sha3_512, shake128, shake256}

-- (4.3)
abbrev pub PRF : ℕ → List ℕ → ℕ → List ℕ
PRF eta s b = shake256 (s ++ b ∷ []) (64 * eta)

-- (4.4)
abbrev pub H : List ℕ → List ℕ
H s = sha3_256 s

abbrev pub J : List ℕ → List ℕ
J s = shake256 s 32

-- (4.5): its two halves
abbrev pub G₁ : List ℕ → List ℕ
G₁ c = take 32 (sha3_512 c)

abbrev pub G₂ : List ℕ → List ℕ
G₂ c = drop 32 (sha3_512 c)

-- XOF (section 4.1): the stream of matrix place (i, j), of which document 01 reads 840 bytes
abbrev pub XOF : List ℕ → ℕ → ℕ → List ℕ
XOF rho i j = shake128 (rho ++ j ∷ i ∷ []) 840
