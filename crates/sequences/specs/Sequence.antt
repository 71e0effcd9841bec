-- Document 02, ask 5: calls on one split key, each given what the last one left. A call is told a rank, as the outward
-- calls are; what it answers is the call's own definition.
use Rattle.std.specs.Prelude.{cond, List, [], ◌∷◌, ℕ, ◌+◌, Err}
use Rattle.refusals.specs.declared.Refusal.TheVariants.{NoSuchRank}
use Rattle.refusals.specs.Refusals.{Answer, number, after}
use Rattle.parameters.specs.declared.Edition.{Edition}
use Rattle.parameters.specs.declared.Parameters.{Parameters}
use Rattle.parameters.specs.Ranks.{is_rank, of_rank}
use Rattle.split_key.specs.KeyState.{KeyState, key_state}
use Rattle.split_key.specs.Refresh.{fresh_key, refresh_answer}
use Rattle.decapsulation_run.specs.Input.{Input}
use Rattle.decapsulation.specs.Calls.{decaps_answer, trace_answer}

-- a call, by its rank and what is lent to it beside the split key
pub data Call : Type 0 where
  -- the ciphertext, the strip, and the buffers for the shares of K
  decaps : (rank : ℕ) (e : Edition) (ct words coeffs k0 k1 : List ℕ) → Call
  -- the ciphertext, the strip, and the step
  trace : (rank : ℕ) (e : Edition) (ct words coeffs : List ℕ) (step : ℕ) → Call
  -- the masks
  refresh : (rank : ℕ) (mask_coeffs mask_words : List ℕ) → Call

-- refusal 9, or what the call with the rank's set answers
abbrev pub by_rank : ℕ → (Parameters → Answer) → Answer
by_rank rank answer = cond (is_rank rank) (answer (of_rank rank)) (Err NoSuchRank)

-- what decapsulation and trace are lent to be read, in the state h
abbrev pub input_of : KeyState → List ℕ → List ℕ → List ℕ → Input
input_of h ct words coeffs = record { key = h.key; ct = ct; words = words; coeffs = coeffs }

unfoldable pub answer_of : KeyState → Call → Answer
answer_of h (decaps rank e ct words coeffs k0 k1) =
    by_rank rank (λ p. decaps_answer e p (input_of h ct words coeffs) h.limit h.count k0 k1)
answer_of h (trace rank e ct words coeffs step) = by_rank rank (λ p. trace_answer e p (input_of h ct words coeffs) step)
answer_of h (refresh rank mask_coeffs mask_words) =
    by_rank rank (λ p. refresh_answer p mask_coeffs mask_words h.key.s h.key.z)

-- the state behind a call that is carried out
unfoldable pub carried_out : KeyState → Call → KeyState
carried_out h (decaps rank e ct words coeffs k0 k1) = key_state h.key h.limit (h.count + 1)
carried_out h (trace rank e ct words coeffs step) = h
carried_out h (refresh rank mask_coeffs mask_words) = key_state (fresh_key h.key mask_coeffs mask_words) h.limit 0

-- the state behind a call, and behind a list of calls
abbrev pub leaves : KeyState → Call → KeyState
leaves h c = after (number (answer_of h c)) (carried_out h c) h

unfoldable pub leaves_all : KeyState → List Call → KeyState
leaves_all h [] = h
leaves_all h (c ∷ cs) = leaves_all (leaves h c) cs
