-- Document 02, ask 5: the shares that refreshing makes of a split key's, and what the call answers and leaves in the
-- lent buffers and in the count, for a parameter set and told a rank (₀ before it, n the answer's number, ₁ behind it).
use Rattle.std.specs.Prelude.{◌≡◌, not, ◌&&◌, List, [], ◌∷◌, ℕ, ◌*◌, length, get_or}
use Rattle.words.specs.Word.{xor}
use Rattle.words.specs.Tab.{tab}
use Rattle.ring.specs.Polynomial.{add, sub}
use Rattle.worksheet.specs.SharedList.{SharedList, shared_list}
use Rattle.refusals.specs.declared.Refusal.TheVariants.{WrongLength, MaskRange, ShareRange}
use Rattle.refusals.specs.Refusals.{Answer, number, Row, row, answer, after, Lent, lent, sized}
use Rattle.refusals.specs.Reduced.{reduced}
use Rattle.parameters.specs.declared.Parameters.{Parameters}
use Rattle.parameters.specs.ByRank.{ByRank}
use Rattle.split_key.specs.SplitKey.{SplitKey, share_lengths}

-- ---- the fresh shares

-- the masks are added to the first shares modulo q, and taken from the second
abbrev pub fresh_coeffs : SharedList → List ℕ → SharedList
fresh_coeffs s masks = shared_list (add s.s0 masks) (sub s.s1 masks)

unfoldable pub xor_words : List ℕ → List ℕ → List ℕ
xor_words z masks = tab (length z) (λ i. xor (get_or z i 0) (get_or masks i 0))

-- the like by exclusive or
abbrev pub fresh_words : SharedList → List ℕ → SharedList
fresh_words z masks = shared_list (xor_words z.s0 masks) (xor_words z.s1 masks)

unfoldable pub fresh_key : SplitKey → List ℕ → List ℕ → SplitKey
fresh_key key mask_coeffs mask_words =
    record { s = fresh_coeffs key.s mask_coeffs; z = fresh_words key.z mask_words; public = key.public }

-- ---- the call

module _ (p : Parameters) where
  abbrev pub refresh_lengths : List ℕ → List ℕ → SharedList → SharedList → List Lent
  refresh_lengths mask_coeffs mask_words s z =
      lent mask_coeffs (256 * p.k) ∷ lent mask_words 4 ∷ share_lengths p s z

  -- rows 5 and 6
  abbrev pub refresh_rows : List ℕ → SharedList → List Row
  refresh_rows mask_coeffs s =
      row (not (reduced mask_coeffs)) MaskRange
      ∷ row (not (reduced s.s0 && reduced s.s1)) ShareRange
      ∷ []

  -- row 1, and these
  unfoldable pub refresh_answer : List ℕ → List ℕ → SharedList → SharedList → Answer
  refresh_answer mask_coeffs mask_words s z =
      answer (row (not (sized (refresh_lengths mask_coeffs mask_words s z))) WrongLength ∷ refresh_rows mask_coeffs s)

  pub record Refreshed (mask_coeffs mask_words : List ℕ) (s₀ z₀ : SharedList) (count₀ n : ℕ) (s₁ z₁ : SharedList)
      (count₁ : ℕ) : Type 0 where
    pub answer : n ≡ number (refresh_answer mask_coeffs mask_words s₀ z₀)
    pub s : s₁ ≡ after n (fresh_coeffs s₀ mask_coeffs) s₀
    pub z : z₁ ≡ after n (fresh_words z₀ mask_words) z₀
    pub count : count₁ ≡ after n 0 count₀

abbrev pub RefreshedBy : ℕ → List ℕ → List ℕ → SharedList → SharedList → ℕ → ℕ → SharedList → SharedList → ℕ → Type 0
RefreshedBy rank mask_coeffs mask_words s₀ z₀ count₀ n s₁ z₁ count₁ =
    ByRank rank n (λ p. Refreshed p mask_coeffs mask_words s₀ z₀ count₀ n s₁ z₁ count₁)
    ((s₁ ≡ s₀) × (z₁ ≡ z₀) × (count₁ ≡ count₀))
