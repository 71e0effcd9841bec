-- Kyber, round 3 (version 3.02): CCAKEM. But for the hash of d its CPAPKE is FIPS 203's K-PKE. Its public key pk is ek,
-- its secret key sk is dk; its hashes H and G are FIPS 203's, and its KDF is FIPS 203's J.
use Rattle.std.specs.Prelude.{cond, List, ◌++◌, ℕ}
use Rattle.refusals.specs.Same.{same}
use Rattle.parameters.specs.declared.Parameters.{Parameters}
use Rattle.hash_functions.specs.Functions.{H, J, G₁, G₂}
use Rattle.kpke.specs.KPke.{ek_from, dk_from, encrypt, decrypt}
use Rattle.mlkem.specs.MlKem.{whole_dk, secret_part, public_part, hash_part, z_part}

module _ (p : Parameters) where
  -- Algorithm 7, CCAKEM.KeyGen(), for d and z: pk and sk. Algorithm 4, CPAPKE.KeyGen(), line 2: rho and sigma are the
  -- halves of G(d).
  unfoldable pub key_gen_ek : List ℕ → List ℕ
  key_gen_ek d = ek_from p (G₁ d) (G₂ d)

  unfoldable pub key_gen_dk : List ℕ → List ℕ → List ℕ
  key_gen_dk d z = whole_dk (dk_from p (G₂ d)) (key_gen_ek d) z

  -- Algorithm 8, CCAKEM.Enc(pk), for line 1's m, which line 2 hashes: c of lines 3 and 4, and line 5's K
  unfoldable pub encaps_ct : List ℕ → List ℕ → List ℕ
  encaps_ct ek m = encrypt p ek (H m) (G₂ (H m ++ H ek))

  unfoldable pub encaps_key : List ℕ → List ℕ → List ℕ
  encaps_key ek m = J (G₁ (H m ++ H ek) ++ H (encaps_ct ek m))

  -- Algorithm 9, CCAKEM.Dec(c, sk), lines 4 to 10
  unfoldable pub decaps : List ℕ → List ℕ → List ℕ
  decaps dk c =
      let m = decrypt p (secret_part p dk) c in
      let g = m ++ hash_part p dk in
      cond (same c (encrypt p (public_part p dk) m (G₂ g))) (J (G₁ g ++ H c)) (J (z_part p dk ++ H c))
