-- FIPS 203, section 6: ML-KEM's internal algorithms.
use Rattle.std.specs.Prelude.{cond, List, ◌++◌, ℕ, ◌+◌, take, drop}
use Rattle.refusals.specs.Same.{same}
use Rattle.parameters.specs.declared.Parameters.{Parameters}
use Rattle.parameters.specs.Lengths.{vector_bytes, ek_bytes}
use Rattle.hash_functions.specs.Functions.{H, J, G₁, G₂}
use Rattle.kpke.specs.KPke.{ek_pke, dk_pke, encrypt, decrypt}

-- Algorithm 16, line 3: dk, from K-PKE's dk, ek and z
abbrev pub whole_dk : List ℕ → List ℕ → List ℕ → List ℕ
whole_dk dk ek z = dk ++ (ek ++ (H ek ++ z))

module _ (p : Parameters) where
  -- Algorithm 16, ML-KEM.KeyGen_internal(d, z): ek and dk
  unfoldable pub key_gen_ek : List ℕ → List ℕ
  key_gen_ek d = ek_pke p d

  unfoldable pub key_gen_dk : List ℕ → List ℕ → List ℕ
  key_gen_dk d z = whole_dk (dk_pke p d) (key_gen_ek d) z

  -- Algorithm 17, ML-KEM.Encaps_internal(ek, m): line 1's K, and c
  unfoldable pub encaps_key : List ℕ → List ℕ → List ℕ
  encaps_key ek m = G₁ (m ++ H ek)

  unfoldable pub encaps_ct : List ℕ → List ℕ → List ℕ
  encaps_ct ek m = encrypt p ek m (G₂ (m ++ H ek))

  -- Algorithm 18, ML-KEM.Decaps_internal(dk, c), lines 1 to 4: the parts of dk
  abbrev pub secret_part : List ℕ → List ℕ
  secret_part dk = take (vector_bytes p) dk

  abbrev pub public_part : List ℕ → List ℕ
  public_part dk = take (ek_bytes p) (drop (vector_bytes p) dk)

  abbrev pub hash_part : List ℕ → List ℕ
  hash_part dk = take 32 (drop (vector_bytes p + ek_bytes p) dk)

  abbrev pub z_part : List ℕ → List ℕ
  z_part dk = take 32 (drop (vector_bytes p + ek_bytes p + 32) dk)

  -- lines 5 to 12
  unfoldable pub decaps : List ℕ → List ℕ → List ℕ
  decaps dk c =
      let m = decrypt p (secret_part dk) c in
      let g = m ++ hash_part dk in
      cond (same c (encrypt p (public_part dk) m (G₂ g))) (G₁ g) (J (z_part dk ++ c))
