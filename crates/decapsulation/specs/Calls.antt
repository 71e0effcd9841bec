-- What decapsulation and trace of an edition answer and hand back, for a parameter set and told a rank.
use Rattle.std.specs.Prelude.{◌≡◌, Bool, not, List, [], ◌∷◌, ◌++◌, ℕ, ◌+◌, ◌^◌, ltb, length}
use Rattle.words.specs.Bounded.{Below}
use Rattle.worksheet.specs.SharedList.{SharedList}
use Rattle.refusals.specs.declared.Refusal.TheVariants.{WrongLength, LimitReached}
use Rattle.refusals.specs.Refusals.{Answer, number, after, Row, row, answer, Lent, lent, sized}
use Rattle.tracing.specs.Trace as trace
use Rattle.parameters.specs.declared.Edition.{Edition}
use Rattle.parameters.specs.declared.Parameters.{Parameters}
use Rattle.parameters.specs.ByRank.{ByRank}
use Rattle.parameters.specs.Lengths.{ct_bytes}
use Rattle.split_key.specs.SplitKey.{key_lengths, split}
use Rattle.stages.specs.Counts.{strip_words, strip_coeffs}
use Rattle.decapsulation_run.specs.Input.{Input, range_rows, sheet}

-- what the types of the lent buffers say: bytes are below 256, words below 2^64
pub record Typed (g : Input) : Type 0 where
  pub z0 : Below (2 ^ 64) g.key.z.s0
  pub z1 : Below (2 ^ 64) g.key.z.s1
  pub public : Below 256 g.key.public
  pub ct : Below 256 g.ct
  pub words : Below (2 ^ 64) g.words

-- row 1, where the buffers bs are lent
abbrev pub length_row : List Lent → Row
length_row bs = row (not (sized bs)) WrongLength

module _ (e : Edition) (p : Parameters) where
  -- the lengths that the buffers to be read must have
  abbrev pub lengths : Input → List Lent
  lengths g =
      key_lengths p g.key
      ++ lent g.ct (ct_bytes p) ∷ lent g.words (strip_words e p) ∷ lent g.coeffs (strip_coeffs p) ∷ []

  -- ---- decapsulation, which is lent k0 and k1 for the shares of K, and the split key's use limit and count

  -- rows 1, 11, 5, 6 and 7; a split key is usable as long as its count is below its limit
  abbrev pub decaps_rows : Bool → Input → List ℕ → List ℕ → List Row
  decaps_rows usable g k0 k1 =
      length_row (lengths g ++ lent k0 4 ∷ lent k1 4 ∷ []) ∷ row (not usable) LimitReached ∷ range_rows p g

  unfoldable pub decaps_answer : Input → ℕ → ℕ → List ℕ → List ℕ → Answer
  decaps_answer g limit count k0 k1 = answer (decaps_rows (ltb count limit) g k0 k1)

  unfoldable pub decaps_shares : Input → SharedList
  decaps_shares g = (sheet e p g).value

  -- it answers the number n, and leaves the count as count₁, and k0' and k1'
  pub record Decapsulated (g : Input) (limit count₀ : ℕ) (k0 k1 : List ℕ) (n count₁ : ℕ) (k0' k1' : List ℕ)
      : Type 0 where
    pub answer : n ≡ number (decaps_answer g limit count₀ k0 k1)
    pub count : count₁ ≡ after n (count₀ + 1) count₀
    pub share0 : k0' ≡ after n (decaps_shares g).s0 k0
    pub share1 : k1' ≡ after n (decaps_shares g).s1 k1

  -- ---- trace of the step t, which is lent neither limit nor count

  abbrev pub trace_rows : Input → List Row
  trace_rows g = length_row (lengths g) ∷ range_rows p g

  unfoldable pub trace_answer : Input → ℕ → Answer
  trace_answer g t = trace.step_answer (trace_rows g) (length (sheet e p g).entries) t

  unfoldable pub trace_value : Input → ℕ → ℕ
  trace_value g t = trace.step_value (sheet e p g).entries t

  -- it answers the number n, and v becomes v'
  pub record Traced (g : Input) (t v n v' : ℕ) : Type 0 where
    pub answer : n ≡ number (trace_answer g t)
    pub value : v' ≡ after n (trace_value g t) v

-- ---- what import hands over for the key dk and the first shares a and w, with a ciphertext and a strip
abbrev pub imported : Parameters → List ℕ → List ℕ → List ℕ → List ℕ → List ℕ → List ℕ → Input
imported p dk a w c words coeffs = record { key = split p dk a w; ct = c; words = words; coeffs = coeffs }

-- ---- told a rank

module _ (e : Edition) (rank : ℕ) where
  abbrev pub DecapsulatedBy : Input → ℕ → ℕ → List ℕ → List ℕ → ℕ → ℕ → List ℕ → List ℕ → Type 0
  DecapsulatedBy g limit count₀ k0 k1 n count₁ k0' k1' =
      ByRank rank n (λ p. Decapsulated e p g limit count₀ k0 k1 n count₁ k0' k1')
      ((count₁ ≡ count₀) × (k0' ≡ k0) × (k1' ≡ k1))

  abbrev pub TracedBy : Input → ℕ → ℕ → ℕ → ℕ → Type 0
  TracedBy g t v n v' = ByRank rank n (λ p. Traced e p g t v n v') (v' ≡ v)
