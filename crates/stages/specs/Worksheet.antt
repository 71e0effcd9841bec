-- Document 01, The worksheet: masked decapsulation as one program, its ten stages in order, for a parameter set; and
-- document 02, ask 4: Kyber's, which is the same up to stage 8 and ends otherwise. The letters are those of FIPS 203's
-- Algorithms 14, 15 and 18.
use Rattle.std.specs.Prelude.{cond, ℕ, ◌+◌, ◌-◌, ◌*◌, ltb, get_or, drop, replicate}
use mathlib.Core.List.{List, [], ◌∷◌, ◌++◌, flatten}
use Rattle.words.specs.Plane.{plane}
use Rattle.words.specs.Tab.{tab}
use Rattle.codec.specs.Bytes.{byte_decode, byte_decode12}
use Rattle.ring.specs.Polynomial.{add, sub}
use Rattle.transform.specs.Transform.{ntt, inverse_ntt}
use Rattle.worksheet.specs.Shares.{Shares}
use Rattle.worksheet.specs.Prog.{Prog, ret, ◌>>=◌, times}
use Rattle.worksheet.specs.Sharing.{none}
use Rattle.worksheet.specs.SharedList.{SharedList, shared_at, unzip}
use Rattle.worksheet.specs.Pass.{enter_both}
use Rattle.masked_fips202.specs.MaskedWords.{masked_sha3_512_words, masked_shake256_words}
use Rattle.masked_compression.specs.Compression.{masked_compress}
use Rattle.masked_sampler.specs.Coefficient.{bit_to_coeff, sampler}
use Rattle.masked_comparison.specs.Comparison.{add_public, all_zero, select_all}
use Rattle.parameters.specs.declared.Edition.{Edition}
use Rattle.parameters.specs.declared.Edition.TheVariants.{MlKem, Kyber}
use Rattle.parameters.specs.declared.Parameters.{Parameters}
use Rattle.parameters.specs.Lengths.{vector_bytes}
use Rattle.hash_functions.specs.Functions.{H}
use Rattle.vectors.specs.Vector.{parts, dot}
use Rattle.kpke.specs.KPke.{matrix, first_decoded, noisy_message}
use Rattle.split_key.specs.SplitKey.{SplitKey, ek_of, h_of}
use Rattle.stages.specs.Moves.{nothing, shares0, shares1, string_bit, with_public, coins_of}

-- ---- parts common to several stages

-- the words of the planes of 256 numbers of d bits, by group and plane from low
unfoldable pub planes_of : ℕ → List ℕ → List ℕ
planes_of d f = flatten (tab 4 (λ g. tab d (plane 64 (λ i. get_or f (64 * g + i) 0))))

-- masked compression of a polynomial to depth d: the words of its planes, by group and plane from low
unfoldable pub compress_poly : ℕ → SharedList → Prog (List Shares)
compress_poly d f = do
  w ← times 4 (λ g. masked_compress d (λ i. shared_at f (64 * g + i)))
  ret (flatten w)

-- noise polynomial N of width eta: SHAKE256 of the coins and N, then the sampler
unfoldable pub noise_poly : ℕ → SharedList → ℕ → Prog SharedList
noise_poly eta coins n = do
  o ← masked_shake256_words (with_public coins (n ∷ [])).s0 (with_public coins (n ∷ [])).s1 (8 * eta)
  f ← times 256 (λ i. sampler eta (λ j. string_bit o (2 * eta * i + j)))
  ret (unzip 256 (λ i. get_or f i none))

-- FIPS 203's J, which is Kyber's KDF, of four words and a public string behind them: four words
unfoldable pub masked_j : SharedList → List ℕ → Prog SharedList
masked_j w string = masked_shake256_words (with_public w string).s0 (with_public w string).s1 4

-- ---- the stages that are the same for every parameter set

-- stage 2: m', four words
unfoldable pub stage2 : SharedList → Prog SharedList
stage2 w = do
  m ← compress_poly 1 w
  ret (unzip 4 (λ g. get_or m g none))

-- stage 3: K' and the coins, four words each
unfoldable pub stage3 : SharedList → List ℕ → Prog SharedList
stage3 m h = masked_sha3_512_words (with_public m h).s0 (with_public m h).s1

-- stage 4: mu, the message's polynomial
unfoldable pub stage4 : SharedList → Prog SharedList
stage4 m = do
  f ← times 256 (λ i. bit_to_coeff 1665 (string_bit m i))
  ret (unzip 256 (λ i. get_or f i none))

-- stage 9: the rejected words
abbrev pub stage9 : SharedList → List ℕ → Prog SharedList
stage9 z c = masked_j z c

-- stage 10: K, four words
unfoldable pub stage10 : Shares → SharedList → SharedList → Prog SharedList
stage10 b g rejected = select_all 4 b g rejected

-- Kyber's last hash: K, four words, of the selected words and the ciphertext's hash, which is public
abbrev pub last_hash : SharedList → List ℕ → Prog SharedList
last_hash w c = masked_j w (H c)

-- what stages 1 to 8 hand on: the equal bit, and stage 3's words
pub record Compared : Type 0 where
  pub equal : Shares
  pub g : SharedList

module _ (p : Parameters) where
  -- ---- stage 1: w, the noisy message; the ciphertext's second part enters share 0
  unfoldable pub stage1 : SharedList → List ℕ → Prog SharedList
  stage1 s c =
      enter_both 256 (noisy_message p (λ i. parts 256 s.s0 i) c)
      (sub (replicate 256 0) (inverse_ntt (dot p.k (λ i. parts 256 s.s1 i) (λ i. ntt (first_decoded p c i)))))

  -- ---- stage 5: 2 k + 1 noise polynomials: y of width eta1, then e1 and e2 of width eta2
  unfoldable pub stage5 : SharedList → Prog (List SharedList)
  stage5 coins = do
    y ← times p.k (λ i. noise_poly p.eta1 coins i)
    e ← times (p.k + 1) (λ i. noise_poly p.eta2 coins (p.k + i))
    ret (y ++ e)

  -- ---- stage 6: re-encryption, share by share: u, k polynomials, then v

  -- on one share, of which n are the noise polynomials: row i of u, and v with the share of mu
  unfoldable pub u_share : List ℕ → (ℕ → List ℕ) → ℕ → List ℕ
  u_share ek n i =
      add (inverse_ntt (dot p.k (λ j. matrix (drop (vector_bytes p) ek) j i) (λ j. ntt (n j)))) (n (p.k + i))

  unfoldable pub v_share : List ℕ → (ℕ → List ℕ) → List ℕ → List ℕ
  v_share ek n mu =
      add (add (inverse_ntt (dot p.k (λ j. byte_decode12 (parts 384 ek j)) (λ j. ntt (n j)))) (n (2 * p.k))) mu

  -- polynomial i of the k + 1
  abbrev pub uv_share : List ℕ → (ℕ → List ℕ) → List ℕ → ℕ → List ℕ
  uv_share ek n mu i = cond (ltb i p.k) (u_share ek n i) (v_share ek n mu)

  unfoldable pub stage6 : List ℕ → List SharedList → SharedList → Prog (List SharedList)
  stage6 ek n mu =
      times (p.k + 1) (λ i. enter_both 256 (uv_share ek (shares0 n) mu.s0 i) (uv_share ek (shares1 n) mu.s1 i))

  -- ---- stage 7: the words of their planes, by polynomial, group and plane from low
  unfoldable pub stage7 : List SharedList → Prog (List Shares)
  stage7 r = do
    u ← times p.k (λ i. compress_poly p.du (get_or r i nothing))
    v ← compress_poly p.dv (get_or r p.k nothing)
    ret (flatten u ++ v)

  -- ---- stage 8: the ciphertext's planes go into share 0; all words are folded to the equal bit

  -- the ciphertext's own, in stage 7's order
  unfoldable pub ciphertext_planes : List ℕ → List ℕ
  ciphertext_planes c =
      flatten (tab p.k (λ i. planes_of p.du (byte_decode p.du (parts (32 * p.du) c i))))
      ++ planes_of p.dv (byte_decode p.dv (drop (32 * p.du * p.k) c))

  abbrev pub word_count : ℕ
  word_count = p.k * (4 * p.du) + 4 * p.dv

  unfoldable pub stage8 : List ℕ → List Shares → Prog Shares
  stage8 c w = do
    d ← add_public word_count (λ j. get_or (ciphertext_planes c) j 0) (λ j. get_or w j none)
    all_zero (word_count - 1) (λ j. get_or d j none)

  -- ---- the whole

  -- Algorithm 15, K-PKE.Decrypt: stages 1 and 2 give m'
  unfoldable pub masked_decrypt : SharedList → List ℕ → Prog SharedList
  masked_decrypt s c = do
    w ← stage1 s c
    stage2 w

  -- Algorithm 14, K-PKE.Encrypt: stages 4 to 7 give the planes of the ciphertext made again
  unfoldable pub masked_encrypt : List ℕ → SharedList → SharedList → Prog (List Shares)
  masked_encrypt ek m coins = do
    mu ← stage4 m
    n ← stage5 coins
    r ← stage6 ek n mu
    stage7 r

  -- Algorithm 18, lines 5, 6 and 8, and the comparison of line 9: stages 1 to 8
  unfoldable pub compared : SplitKey → List ℕ → Prog Compared
  compared key c = do
    m ← masked_decrypt key.s c
    g ← stage3 m (h_of p key)
    w ← masked_encrypt (ek_of p key) m (coins_of g)
    b ← stage8 c w
    ret (record { equal = b; g = g })

-- What follows stage 8, for z and the ciphertext. FIPS 203, Algorithm 18: line 7 is stage 9; lines 9 to 12 are stage
-- 10, which gives K' or the rejected words. Kyber, algorithm 9, lines 7 to 10: K' or z, selected as in stage 10, is
-- hashed with the ciphertext's hash.
unfoldable pub ending : Edition → Compared → SharedList → List ℕ → Prog SharedList
ending MlKem o z c = do
  rejected ← stage9 z c
  stage10 o.equal o.g rejected
ending Kyber o z c = do
  w ← stage10 o.equal o.g z
  last_hash w c

-- stages 1 to 8 and the edition's ending
unfoldable pub worksheet : Edition → Parameters → SplitKey → List ℕ → Prog SharedList
worksheet e p key c = do
  o ← compared p key c
  ending e o key.z c
