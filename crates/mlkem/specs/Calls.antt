-- What sampling, key making and encapsulation answer and leave in the lent buffers: for an edition and a parameter set,
-- and told a rank. What a call leaves is a record of what was lent (₀ where it changes), the answer's number n, and the
-- buffers as they are then (₁).
use Rattle.std.specs.Prelude.{◌≡◌, not, List, [], ◌∷◌, ℕ, take, drop}
use Rattle.sampling.specs.Sample.{full, sample_ntt}
use Rattle.refusals.specs.declared.Refusal.TheVariants.{WrongLength, PublicKeyRange, ShortStream}
use Rattle.parameters.specs.declared.Edition.{Edition}
use Rattle.parameters.specs.declared.Parameters.{Parameters}
use Rattle.parameters.specs.ByRank.{ByRank}
use Rattle.parameters.specs.Lengths.{vector_bytes, ek_bytes, dk_bytes, ct_bytes}
use Rattle.vectors.specs.Vector.{coefficients}
use Rattle.kpke.specs.KPke.{matrix_full}
use Rattle.mlkem.specs.Editions.{seeds, key_gen_ek, key_gen_dk, encaps_key, encaps_ct}
use Rattle.refusals.specs.Refusals.{Answer, number, row, answer, after, Lent, lent, sized}
use Rattle.refusals.specs.Reduced.{reduced}

-- ---- sampling (FIPS 203, algorithm 7)

unfoldable pub sample_answer : List ℕ → List ℕ → Answer
sample_answer stream out =
    answer
    (row (not (sized (lent stream 840 ∷ lent out 256 ∷ []))) WrongLength ∷ row (not (full stream)) ShortStream ∷ [])

pub record StreamSampled (stream out₀ : List ℕ) (n : ℕ) (out₁ : List ℕ) : Type 0 where
  pub answer : n ≡ number (sample_answer stream out₀)
  pub out : out₁ ≡ after n (sample_ntt stream) out₀

module _ (p : Parameters) where
  abbrev pub rho_of : List ℕ → List ℕ
  rho_of ek = drop (vector_bytes p) ek

  -- ---- key making: the buffers with the lengths that they must have
  abbrev pub key_gen_lengths : List ℕ → List ℕ → List ℕ → List ℕ → List Lent
  key_gen_lengths d z ek dk = lent d 32 ∷ lent z 32 ∷ lent ek (ek_bytes p) ∷ lent dk (dk_bytes p) ∷ []

  -- ---- encapsulation: the same, and the answer, which both editions have in common
  abbrev pub encaps_lengths : List ℕ → List ℕ → List ℕ → List ℕ → List Lent
  encaps_lengths ek m ct k = lent ek (ek_bytes p) ∷ lent m 32 ∷ lent ct (ct_bytes p) ∷ lent k 32 ∷ []

  unfoldable pub encaps_answer : List ℕ → List ℕ → List ℕ → List ℕ → Answer
  encaps_answer ek m ct k =
      answer
      (row (not (sized (encaps_lengths ek m ct k))) WrongLength
      ∷ row (not (reduced (coefficients p.k (take (vector_bytes p) ek)))) PublicKeyRange
      ∷ row (not (matrix_full p.k (rho_of ek))) ShortStream
      ∷ [])

module _ (e : Edition) (p : Parameters) where
  -- ---- key making (FIPS 203, algorithm 16; Kyber, algorithm 7)

  unfoldable pub key_gen_answer : List ℕ → List ℕ → List ℕ → List ℕ → Answer
  key_gen_answer d z ek dk =
      answer
      (row (not (sized (key_gen_lengths p d z ek dk))) WrongLength
      ∷ row (not (matrix_full p.k (take 32 (seeds e p d)))) ShortStream
      ∷ [])

  pub record KeysMade (d z ek₀ dk₀ : List ℕ) (n : ℕ) (ek₁ dk₁ : List ℕ) : Type 0 where
    pub answer : n ≡ number (key_gen_answer d z ek₀ dk₀)
    pub ek : ek₁ ≡ after n (key_gen_ek e p d) ek₀
    pub dk : dk₁ ≡ after n (key_gen_dk e p d z) dk₀

  -- ---- encapsulation (FIPS 203, algorithm 17; Kyber, algorithm 8)

  pub record Encapsulated (ek m ct₀ k₀ : List ℕ) (n : ℕ) (ct₁ k₁ : List ℕ) : Type 0 where
    pub answer : n ≡ number (encaps_answer p ek m ct₀ k₀)
    pub ct : ct₁ ≡ after n (encaps_ct e p ek m) ct₀
    pub k : k₁ ≡ after n (encaps_key e p ek m) k₀

-- ---- told a rank

module _ (e : Edition) (rank : ℕ) where
  abbrev pub KeysMadeBy : List ℕ → List ℕ → List ℕ → List ℕ → ℕ → List ℕ → List ℕ → Type 0
  KeysMadeBy d z ek₀ dk₀ n ek₁ dk₁ =
      ByRank rank n (λ p. KeysMade e p d z ek₀ dk₀ n ek₁ dk₁) ((ek₁ ≡ ek₀) × (dk₁ ≡ dk₀))

  abbrev pub EncapsulatedBy : List ℕ → List ℕ → List ℕ → List ℕ → ℕ → List ℕ → List ℕ → Type 0
  EncapsulatedBy ek m ct₀ k₀ n ct₁ k₁ =
      ByRank rank n (λ p. Encapsulated e p ek m ct₀ k₀ n ct₁ k₁) ((ct₁ ≡ ct₀) × (k₁ ≡ k₀))
