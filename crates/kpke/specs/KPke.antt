-- FIPS 203, section 5: K-PKE. A vector of polynomials is a function of its index. The letters are FIPS 203's; t-hat
-- and the like are in the transform's domain.
use Rattle.std.specs.Prelude.{Bool, List, [], ◌∷◌, ◌++◌, map, ℕ, ◌+◌, ◌*◌, drop}
use Rattle.words.specs.Table.{every}
use Rattle.codec.specs.Bytes.{byte_encode, byte_decode, byte_decode12}
use Rattle.codec.specs.Compress.{compress, decompress}
use Rattle.ring.specs.Polynomial.{add, sub}
use Rattle.transform.specs.Transform.{ntt, inverse_ntt}
use Rattle.sampling.specs.Sample.{full, sample_ntt, sample_poly_cbd}
use Rattle.vectors.specs.Vector.{parts, concat, dot}
use Rattle.parameters.specs.declared.Parameters.{Parameters}
use Rattle.parameters.specs.Lengths.{vector_bytes}
use Rattle.hash_functions.specs.Functions.{PRF, G₁, G₂, XOF}

-- A-hat, algorithm 13, lines 3 to 7: place (i, j)
abbrev pub matrix : List ℕ → ℕ → ℕ → List ℕ
matrix rho i j = sample_ntt (XOF rho i j)

-- each of A-hat's streams yields 256 coefficients (algorithm 7's loop ends within the 840 bytes that document 01 reads)
unfoldable pub matrix_full : ℕ → List ℕ → Bool
matrix_full k rho = every k (λ i. every k (λ j. full (XOF rho i j)))

-- SamplePolyCBD_eta (algorithm 8) of PRF_eta(seed, n): a polynomial of s or e in algorithm 13, of y, e1 or e2 in
-- algorithm 14
abbrev pub noise : ℕ → List ℕ → ℕ → List ℕ
noise eta seed n = sample_poly_cbd eta (PRF eta seed n)

-- Algorithm 13, line 18: t-hat[i], for the matrix A-hat in a, the secret s-hat in s and the error e-hat in e
unfoldable pub public_polynomial : ℕ → (ℕ → ℕ → List ℕ) → (ℕ → List ℕ) → (ℕ → List ℕ) → ℕ → List ℕ
public_polynomial k a s e i = add (dot k (a i) s) (e i)

-- Algorithm 14, line 19: u[i], from column i of A-hat in a, y-hat in y and e1's polynomial i; eta is the noise's width
unfoldable pub first_part : ℕ → ℕ → (ℕ → ℕ → List ℕ) → (ℕ → List ℕ) → List ℕ → ℕ → List ℕ
first_part k eta a y r i = add (inverse_ntt (dot k (λ j. a j i) y)) (noise eta r (k + i))

-- lines 17, 20 and 21: v = e2 + mu + the transform back of t-hat by y-hat, for t-hat in t and y-hat in y
unfoldable pub second_part : ℕ → ℕ → (ℕ → List ℕ) → (ℕ → List ℕ) → List ℕ → List ℕ → List ℕ
second_part k eta t y m r =
    let e2 = noise eta r (2 * k) in
    let mu = map (decompress 1) (byte_decode 1 m) in
    add (add (inverse_ntt (dot k t y)) e2) mu

module _ (p : Parameters) where
  -- ---- Algorithm 13, K-PKE.KeyGen(d)

  -- lines 8 to 11 and 16, from line 1's sigma: s-hat
  unfoldable pub secret_vector : List ℕ → ℕ → List ℕ
  secret_vector sigma i = ntt (noise p.eta1 sigma i)

  -- lines 12 to 15 and 17: e-hat
  unfoldable pub error_vector : List ℕ → ℕ → List ℕ
  error_vector sigma i = ntt (noise p.eta1 sigma (p.k + i))

  -- lines 3 to 19, from line 1's rho and sigma: ek, which is t-hat encoded and rho
  unfoldable pub ek_from : List ℕ → List ℕ → List ℕ
  ek_from rho sigma =
      let t = public_polynomial p.k (matrix rho) (secret_vector sigma) (error_vector sigma) in
      concat p.k (λ i. byte_encode 12 (t i)) ++ rho

  -- line 20: dk
  unfoldable pub dk_from : List ℕ → List ℕ
  dk_from sigma = concat p.k (λ i. byte_encode 12 (secret_vector sigma i))

  -- line 1: rho and sigma are the halves of G(d || k)
  unfoldable pub ek_pke : List ℕ → List ℕ
  ek_pke d = ek_from (G₁ (d ++ p.k ∷ [])) (G₂ (d ++ p.k ∷ []))

  unfoldable pub dk_pke : List ℕ → List ℕ
  dk_pke d = dk_from (G₂ (d ++ p.k ∷ []))

  -- ---- Algorithm 14, K-PKE.Encrypt(ek, m, r)

  -- lines 9 to 12, and 18: y-hat
  unfoldable pub ephemeral : List ℕ → ℕ → List ℕ
  ephemeral r i = ntt (noise p.eta1 r i)

  -- line 2: t-hat
  unfoldable pub public_vector : List ℕ → ℕ → List ℕ
  public_vector ek j = byte_decode12 (parts 384 ek j)

  -- lines 19 to 24: c1, which is u compressed and encoded, and c2, which is v
  unfoldable pub encrypt : List ℕ → List ℕ → List ℕ → List ℕ
  encrypt ek m r =
      let rho = drop (vector_bytes p) ek in
      let u = first_part p.k p.eta2 (matrix rho) (ephemeral r) r in
      let v = second_part p.k p.eta2 (public_vector ek) (ephemeral r) m r in
      concat p.k (λ i. byte_encode p.du (map (compress p.du) (u i)))
      ++ byte_encode p.dv (map (compress p.dv) v)

  -- ---- Algorithm 15, K-PKE.Decrypt(dk, c)

  -- lines 1 and 3: u'
  unfoldable pub first_decoded : List ℕ → ℕ → List ℕ
  first_decoded c i = map (decompress p.du) (byte_decode p.du (parts (32 * p.du) c i))

  -- lines 2 and 4: v'
  unfoldable pub second_decoded : List ℕ → List ℕ
  second_decoded c = map (decompress p.dv) (byte_decode p.dv (drop (32 * p.du * p.k) c))

  -- line 6: w, for s-hat in s
  unfoldable pub noisy_message : (ℕ → List ℕ) → List ℕ → List ℕ
  noisy_message s c = sub (second_decoded c) (inverse_ntt (dot p.k s (λ i. ntt (first_decoded c i))))

  -- lines 5 and 7: the message
  unfoldable pub decrypt : List ℕ → List ℕ → List ℕ
  decrypt dk c = byte_encode 1 (map (compress 1) (noisy_message (λ i. byte_decode12 (parts 384 dk i)) c))
