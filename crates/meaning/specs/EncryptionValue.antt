-- Stages 4 to 7: what they make of shared message and coins are shares of the planes of K-PKE.Encrypt's ciphertext.
use Rattle.std.specs.Prelude.{◌≡◌, refl, ℕ, ◌+◌, ◌*◌, ◌<◌, drop}
use Rattle.std.proofs.Math.Path.{sym, ap}
use Rattle.std.proofs.Common.{ap₂, ◌∙◌, arith, lt-ltb, le-ltb}
use mathlib.Core.List.{List, map, ◌++◌}
use Rattle.codec.specs.Bytes.{byte_encode, byte_decode}
use Rattle.codec.specs.Compress.{compress, decompress}
use Rattle.ring.specs.Polynomial.{add}
use Rattle.transform.specs.Transform.{ntt, inverse_ntt}
use Rattle.worksheet.specs.Turns.{Each}
use Rattle.worksheet.specs.Gives.{Gives, ret_g, gives_bind, gives-times}
use Rattle.worksheet.specs.SharedList.{SharedList}
use Rattle.parameters.specs.declared.Parameters.{Parameters}
use Rattle.parameters.specs.Lengths.{vector_bytes}
use Rattle.kpke.specs.KPke.{matrix, first_part, second_part, ephemeral, public_vector, encrypt}
use Rattle.vectors.specs.VectorLaws.{concat_cong, dot_cong}
use Rattle.parameters.specs.Fits.{Fits}
use Rattle.stages.specs.Moves.{nothing}
use Rattle.stages.specs.Worksheet.{u_share, v_share, uv_share, planes_of, stage7, ciphertext_planes, masked_encrypt}
use Rattle.meaning.specs.StageSharing.{PolySharing, BytesSharing, SharingList}
use Rattle.meaning.specs.StageSharingLaws.{sharing_list_append, sharing_list_flatten}
use Rattle.meaning.specs.PlanesValue.{Numbers, compress-numbers, gives-compress_poly}
use Rattle.meaning.specs.CiphertextPlanes.{Ciphertext, words_of, encoded, encoded_ciphertext}
use Rattle.meaning.specs.CiphertextPlanes.{ciphertext_planes_encoded}
use Rattle.meaning.specs.MessageValue.{gives-stage4}
use Rattle.meaning.specs.NoiseValue.{noise_of, noise_of_first, noise_of_later, gives-stage5}
use Rattle.meaning.specs.PolynomialValue.{length-uv_share, gives-stage6}

-- ---- stage 7

module _ (p : Parameters) where
  gives-stage7 : {f : ℕ → List ℕ} {r : List SharedList} → Each (λ i. PolySharing (f i)) (p.k + 1) r
      → Gives (SharingList (words_of p (λ i. map (compress p.du) (f i)) (map (compress p.dv) (f p.k))))
      (stage7 p r)
  unfolding stage7 words_of
  gives-stage7 {f} s =
      gives_bind
      (gives-times (λ i. SharingList (planes_of p.du (map (compress p.du) (f i)))) p.k (λ i h.
      gives-compress_poly p.du (s.at nothing i (omega arith))))
      (λ u e.
      gives_bind (gives-compress_poly p.dv (s.at nothing p.k (omega arith))) (λ v g.
      ret_g (sharing_list_append (sharing_list_flatten p.k _ e) g)))

  module _ (ek m r : List ℕ) where
    -- ---- the ciphertext, by stage 6's polynomials

    abbrev mu : List ℕ
    mu = map (decompress 1) (byte_decode 1 m)

    -- polynomial i of u, then v
    abbrev made : ℕ → List ℕ
    made i = uv_share p ek (noise_of p r) mu i

    abbrev u_made : ℕ → List ℕ
    u_made i = map (compress p.du) (made i)

    abbrev v_made : List ℕ
    v_made = map (compress p.dv) (made p.k)

    transformed : (j : ℕ) → j < p.k → ntt (noise_of p r j) ≡ ephemeral p r j
    unfolding ephemeral
    transformed j h = ap ntt (noise_of_first p r j h)

    made_u : (i : ℕ) → i < p.k
        → made i ≡ first_part p.k p.eta2 (matrix (drop (vector_bytes p) ek)) (ephemeral p r) r i
    unfolding u_share first_part
    made_u i h =
        rw (lt-ltb i p.k h)
        (ap₂ add
        (ap inverse_ntt (dot_cong p.k (λ j l. refl) transformed))
        (noise_of_later p r (p.k + i) (omega arith)))

    made_v : made p.k ≡ second_part p.k p.eta2 (public_vector p ek) (ephemeral p r) m r
    unfolding v_share second_part public_vector
    made_v =
        rw (le-ltb p.k p.k (omega arith))
        (ap (λ (l : List ℕ). add l mu)
        (ap₂ add
        (ap inverse_ntt (dot_cong p.k (λ j l. refl) transformed))
        (noise_of_later p r (2 * p.k) (omega arith))))

    encrypt-encoded : encrypt p ek m r ≡ encoded p u_made v_made
    unfolding encrypt encoded
    encrypt-encoded =
        sym
        (ap₂ (λ (l d : List ℕ). l ++ d)
        (concat_cong p.k (λ i h.
        ap (λ (f : List ℕ). byte_encode p.du (map (compress p.du) f)) (made_u i h)))
        (ap (λ (f : List ℕ). byte_encode p.dv (map (compress p.dv) f)) made_v))

    u_numbers_lem : (i : ℕ) → i < p.k → Numbers p.du (u_made i)
    u_numbers_lem i h = compress-numbers p.du (made i) (length-uv_share p ek (noise_of p r) mu i)

    v_numbers_lem : Numbers p.dv v_made
    v_numbers_lem = compress-numbers p.dv (made p.k) (length-uv_share p ek (noise_of p r) mu p.k)

    pub encrypt-ciphertext : Ciphertext p (encrypt p ek m r)
    encrypt-ciphertext = rw encrypt-encoded (encoded_ciphertext p u_numbers_lem v_numbers_lem)

    encrypt_words_lem : ciphertext_planes p (encrypt p ek m r) ≡ words_of p u_made v_made
    encrypt_words_lem =
        ap (ciphertext_planes p) encrypt-encoded ∙ ciphertext_planes_encoded p u_numbers_lem v_numbers_lem

  -- ---- the whole

  pub gives-masked_encrypt : Fits p → (ek : List ℕ) {m r : List ℕ} {s t : SharedList}
      → BytesSharing 4 m s → BytesSharing 4 r t
      → Gives (SharingList (ciphertext_planes p (encrypt p ek m r))) (masked_encrypt p ek s t)
  unfolding masked_encrypt
  gives-masked_encrypt fits ek {m} {r} a b =
      gives_bind (gives-stage4 a) (λ mu x.
      gives_bind (gives-stage5 b p fits) (λ n y.
      gives_bind (gives-stage6 p ek y x) (λ u z.
      rw (encrypt_words_lem ek m r) (gives-stage7 z))))
