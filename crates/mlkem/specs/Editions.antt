-- The algorithms of either edition: FIPS 203's, section 6, or those of Kyber's round 3.
use Rattle.std.specs.Prelude.{List, [], ◌∷◌, ◌++◌, ℕ}
use Rattle.fips202.specs.Sponge.{sha3_512}
use Rattle.parameters.specs.declared.Edition.{Edition}
use Rattle.parameters.specs.declared.Edition.TheVariants.{MlKem, Kyber}
use Rattle.parameters.specs.declared.Parameters.{Parameters}
use Rattle.mlkem.specs.MlKem as fips203
use Rattle.mlkem.specs.Kyber as round3

-- rho || sigma, of the seed d: FIPS 203, algorithm 13, line 1; Kyber, algorithm 4, line 2
unfoldable pub seeds : Edition → Parameters → List ℕ → List ℕ
seeds MlKem p d = sha3_512 (d ++ p.k ∷ [])
seeds Kyber p d = sha3_512 d

-- key making
unfoldable pub key_gen_ek : Edition → Parameters → List ℕ → List ℕ
key_gen_ek MlKem p d = fips203.key_gen_ek p d
key_gen_ek Kyber p d = round3.key_gen_ek p d

unfoldable pub key_gen_dk : Edition → Parameters → List ℕ → List ℕ → List ℕ
key_gen_dk MlKem p d z = fips203.key_gen_dk p d z
key_gen_dk Kyber p d z = round3.key_gen_dk p d z

-- encapsulation
unfoldable pub encaps_ct : Edition → Parameters → List ℕ → List ℕ → List ℕ
encaps_ct MlKem p ek m = fips203.encaps_ct p ek m
encaps_ct Kyber p ek m = round3.encaps_ct p ek m

unfoldable pub encaps_key : Edition → Parameters → List ℕ → List ℕ → List ℕ
encaps_key MlKem p ek m = fips203.encaps_key p ek m
encaps_key Kyber p ek m = round3.encaps_key p ek m

-- decapsulation
unfoldable pub decaps : Edition → Parameters → List ℕ → List ℕ → List ℕ
decaps MlKem p dk c = fips203.decaps p dk c
decaps Kyber p dk c = round3.decaps p dk c
