-- Document 02, ask 5: of a list of calls on one split key those that are carried out, those of them behind the last
-- refreshing, and the number of decapsulations among these.
use Rattle.std.specs.Prelude.{Bool, true, false, cond, ◌||◌, List, [], ◌∷◌, ℕ, ◌+◌, eqb}
use Rattle.refusals.specs.Refusals.{number}
use Rattle.split_key.specs.KeyState.{KeyState}
use Rattle.sequences.specs.Sequence.{Call, decaps, trace, refresh, answer_of, leaves}

abbrev pub is_refresh : Call → Bool
is_refresh (decaps rank e ct words coeffs k0 k1) = false
is_refresh (trace rank e ct words coeffs step) = false
is_refresh (refresh rank mask_coeffs mask_words) = true

-- how many uses of the split key a call is
abbrev pub uses : Call → ℕ
uses (decaps rank e ct words coeffs k0 k1) = 1
uses (trace rank e ct words coeffs step) = 0
uses (refresh rank mask_coeffs mask_words) = 0

unfoldable pub carried : KeyState → List Call → List Call
carried h [] = []
carried h (c ∷ cs) =
    cond (eqb (number (answer_of h c)) 0) (c ∷ carried (leaves h c) cs) (carried (leaves h c) cs)

unfoldable pub has_refresh : List Call → Bool
has_refresh [] = false
has_refresh (c ∷ cs) = is_refresh c || has_refresh cs

-- those behind the last refreshing; all where there is none
unfoldable pub since_refresh : List Call → List Call
since_refresh [] = []
since_refresh (c ∷ cs) = cond (has_refresh (c ∷ cs)) (since_refresh cs) (c ∷ cs)

unfoldable pub all_uses : List Call → ℕ
all_uses [] = 0
all_uses (c ∷ cs) = uses c + all_uses cs
