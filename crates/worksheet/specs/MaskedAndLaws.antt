-- And of two sharings: how much it does, and what it joins to.
use Rattle.std.specs.Prelude.{ℕ, ◌≡◌, [], ◌∷◌}
use Rattle.words.specs.Word.{xor, and}
use Rattle.words.specs.Formula.{boole, at, ◌⊕◌, ◌⊗◌}
use Rattle.worksheet.specs.Shares.{Shares}
use Rattle.worksheet.specs.Prog.{◌>>=◌, mask, mask_low, entry}
use Rattle.worksheet.specs.Uses.{Uses, ret_u, word_u, enter_u}
use Rattle.worksheet.specs.MaskedAnd.{masked_and}
use Rattle.worksheet.specs.EntryCounts.{and_entries}

pub uses-masked_and : (w : ℕ) (u v : Shares) → Uses and_entries 1 0 (masked_and w u v)
unfolding masked_and mask_low mask entry ◌>>=◌
uses-masked_and w u v =
    word_u (λ x. enter_u (enter_u (enter_u (enter_u (enter_u (enter_u (enter_u (enter_u ret_u))))))))

-- whatever the mask r is
pub joined_and : (u₀ u₁ v₀ v₁ r : ℕ)
    → xor (xor (and u₀ v₀) (xor (and u₀ v₁) r)) (xor (and u₁ v₁) (xor (and u₁ v₀) r)) ≡ and (xor u₀ u₁) (xor v₀ v₁)
joined_and u₀ u₁ v₀ v₁ r =
    boole (at 0 ⊗ at 2 ⊕ (at 0 ⊗ at 3 ⊕ at 4) ⊕ (at 1 ⊗ at 3 ⊕ (at 1 ⊗ at 2 ⊕ at 4))) ((at 0 ⊕ at 1) ⊗ (at 2 ⊕ at 3))
    (u₀ ∷ u₁ ∷ v₀ ∷ v₁ ∷ r ∷ []) tt
