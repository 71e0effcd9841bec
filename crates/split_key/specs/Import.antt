-- What import answers and leaves in the lent buffers and numbers, for a parameter set and told a rank: a record of what
-- was lent (₀ where it changes), the answer's number n, and the split key with its limit and count as they are then
-- (₁).
use Rattle.std.specs.Prelude.{◌≡◌, not, List, [], ◌∷◌, ℕ, ◌*◌, length}
use Rattle.refusals.specs.declared.Refusal.TheVariants.{WrongLength, WrongHash, LimitRange, MaskRange}
use Rattle.refusals.specs.Refusals.{Answer, number, Row, row, answer, after, Lent, lent, sized}
use Rattle.refusals.specs.Same.{same}
use Rattle.refusals.specs.Reduced.{reduced}
use Rattle.parameters.specs.declared.Parameters.{Parameters}
use Rattle.parameters.specs.ByRank.{ByRank}
use Rattle.parameters.specs.Lengths.{dk_bytes}
use Rattle.hash_functions.specs.Functions.{H}
use Rattle.mlkem.specs.MlKem.{public_part, hash_part}
use Rattle.split_key.specs.SplitKey.{SplitKey, key_lengths, split}
use Rattle.split_key.specs.KeyState.{KeyState, key_state, is_limit}

module _ (p : Parameters) where
  -- the buffers with the lengths that they must have: the key dk, the masks, and those lent for the split key
  abbrev pub import_lengths : List ℕ → List ℕ → List ℕ → SplitKey → List Lent
  import_lengths dk mask_coeffs mask_words key =
      lent dk (dk_bytes p) ∷ lent mask_coeffs (256 * p.k) ∷ lent mask_words 4 ∷ key_lengths p key

  -- rows 3, 10 and 5
  abbrev pub import_rows : List ℕ → List ℕ → ℕ → List Row
  import_rows dk mask_coeffs limit =
      row (not (same (hash_part p dk) (H (public_part p dk)))) WrongHash
      ∷ row (not (is_limit limit)) LimitRange
      ∷ row (not (reduced mask_coeffs)) MaskRange
      ∷ []

  -- row 1, and these
  unfoldable pub import_answer : List ℕ → List ℕ → List ℕ → ℕ → SplitKey → Answer
  import_answer dk mask_coeffs mask_words limit key =
      answer
      (row (not (sized (import_lengths dk mask_coeffs mask_words key))) WrongLength ∷ import_rows dk mask_coeffs limit)

  -- the split, not yet used
  abbrev pub imported_state : List ℕ → List ℕ → List ℕ → ℕ → KeyState
  imported_state dk mask_coeffs mask_words limit = key_state (split p dk mask_coeffs mask_words) limit 0

  pub record Imported (dk mask_coeffs mask_words : List ℕ) (limit : ℕ) (state₀ : KeyState) (n : ℕ) (state₁ : KeyState)
      : Type 0 where
    pub answer : n ≡ number (import_answer dk mask_coeffs mask_words limit state₀.key)
    pub state : state₁ ≡ after n (imported_state dk mask_coeffs mask_words limit) state₀

  -- a key that import does not refuse, its other arguments being in order: FIPS 203's checks of a decapsulation key
  -- (section 7.3), of its length and of its hash
  pub record Accepted (dk : List ℕ) : Type 0 where
    pub long : length dk ≡ dk_bytes p
    pub hash : hash_part p dk ≡ H (public_part p dk)

abbrev pub ImportedBy : ℕ → List ℕ → List ℕ → List ℕ → ℕ → KeyState → ℕ → KeyState → Type 0
ImportedBy rank dk mask_coeffs mask_words limit state₀ n state₁ =
    ByRank rank n (λ p. Imported p dk mask_coeffs mask_words limit state₀ n state₁) (state₁ ≡ state₀)
