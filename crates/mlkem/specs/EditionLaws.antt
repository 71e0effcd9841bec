-- Either edition makes its keys from rho and sigma alike; they differ in the hash of d. Kyber encapsulates as FIPS 203
-- does with the hashed m, and hashes K with the ciphertext's hash.
use Rattle.std.specs.Prelude.{◌≡◌, List, ◌++◌, ℕ, take, drop}
use Rattle.std.proofs.Math.Path.{refl}
use Rattle.parameters.specs.declared.Edition.{Edition}
use Rattle.parameters.specs.declared.Edition.TheVariants.{MlKem, Kyber}
use Rattle.parameters.specs.declared.Parameters.{Parameters}
use Rattle.hash_functions.specs.Functions.{H, J}
use Rattle.kpke.specs.KPke.{ek_from, dk_from, ek_pke, dk_pke}
use Rattle.mlkem.specs.MlKem as fips203
use Rattle.mlkem.specs.MlKem.{whole_dk}
use Rattle.mlkem.specs.Kyber as round3
use Rattle.mlkem.specs.Editions.{seeds, key_gen_ek, key_gen_dk, encaps_ct, encaps_key}

module _ (p : Parameters) (d : List ℕ) where
  pub key_gen_ek-seeds : (e : Edition) → key_gen_ek e p d ≡ ek_from p (take 32 (seeds e p d)) (drop 32 (seeds e p d))
  unfolding key_gen_ek seeds fips203.key_gen_ek round3.key_gen_ek ek_pke
  key_gen_ek-seeds MlKem = refl
  key_gen_ek-seeds Kyber = refl

  pub key_gen_dk-seeds : (e : Edition) (z : List ℕ)
      → key_gen_dk e p d z
      ≡ whole_dk (dk_from p (drop 32 (seeds e p d))) (ek_from p (take 32 (seeds e p d)) (drop 32 (seeds e p d))) z
  unfolding key_gen_dk seeds fips203.key_gen_dk fips203.key_gen_ek round3.key_gen_dk round3.key_gen_ek ek_pke dk_pke
  key_gen_dk-seeds MlKem z = refl
  key_gen_dk-seeds Kyber z = refl

module _ (p : Parameters) (ek m : List ℕ) where
  pub encaps_ct_hashed : encaps_ct Kyber p ek m ≡ encaps_ct MlKem p ek (H m)
  unfolding encaps_ct fips203.encaps_ct round3.encaps_ct
  encaps_ct_hashed = refl

  pub encaps_key_hashed : encaps_key Kyber p ek m
      ≡ J (encaps_key MlKem p ek (H m) ++ H (encaps_ct MlKem p ek (H m)))
  unfolding encaps_key fips203.encaps_key round3.encaps_key encaps_ct fips203.encaps_ct round3.encaps_ct
  encaps_key_hashed = refl
