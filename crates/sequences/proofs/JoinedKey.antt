-- Over any list of calls the joined key stays what it was: only refreshing writes shares, and what it adds to the first
-- it takes from the second. So it stays the one that import made.
use Rattle.std.specs.Prelude.{◌≡◌, ℕ, ◌^◌}
use Rattle.std.proofs.Math.Path.{refl}
use Rattle.std.proofs.Common.{◌∙◌}
use mathlib.Core.List.{List, [], ◌∷◌}
use Rattle.words.specs.Bounded.{Below}
use Rattle.refusals.specs.Refusals.{Answer, number}
use Rattle.refusals.specs.RefusalLaws.{number-done}
use Rattle.parameters.specs.declared.Parameters.{Parameters}
use Rattle.parameters.specs.Ranks.{of_rank}
use Rattle.split_key.specs.KeyState.{KeyState}
use Rattle.split_key.specs.Import.{Imported}
use Rattle.split_key.specs.Refresh.{refresh_answer}
use Rattle.split_key.specs.RefreshAnswerLaws.{refresh_tested}
use Rattle.meaning.specs.JoinedDk.{joined_dk}
use Rattle.meaning.specs.ReducedDk.{reduced_dk}
use Rattle.meaning.specs.RefreshValue.{joined_dk_fresh}
use Rattle.decapsulation.specs.CallToCall.{imported_joins}
use Rattle.sequences.specs.Sequence.{Call, decaps, trace, refresh, answer_of, carried_out, leaves, leaves_all}
use Rattle.sequences.proofs.SequenceLaws.{after_same, by_rank_answered}

module _ (p : Parameters) where
  joined_carried_out : (h : KeyState) (c : Call) → number (answer_of h c) ≡ 0
      → joined_dk p (carried_out h c).key ≡ joined_dk p h.key
  unfolding carried_out answer_of
  joined_carried_out h (decaps rank e ct words coeffs k0 k1) n = refl
  joined_carried_out h (trace rank e ct words coeffs step) n = refl
  joined_carried_out h (refresh rank mask_coeffs mask_words) n =
      let told : Parameters → Answer = λ q. refresh_answer q mask_coeffs mask_words h.key.s h.key.z in
      joined_dk_fresh p h.key
      (refresh_tested (of_rank rank) (by_rank_answered rank told (number-done _ n))).long

  joined_leaves : (h : KeyState) (c : Call) → joined_dk p (leaves h c).key ≡ joined_dk p h.key
  joined_leaves h c =
      after_same (λ (s : KeyState). joined_dk p s.key) (number (answer_of h c)) (carried_out h c) h
      (joined_carried_out h c)

  pub joined_kept : (h : KeyState) (cs : List Call) → joined_dk p (leaves_all h cs).key ≡ joined_dk p h.key
  unfolding leaves_all
  joined_kept h [] = refl
  joined_kept h (c ∷ cs) = joined_kept (leaves h c) cs ∙ joined_leaves h c

  -- import of dk has left the state h
  pub imported_kept : {dk mask_coeffs mask_words : List ℕ} {limit : ℕ} {h₀ h : KeyState}
      → Imported p dk mask_coeffs mask_words limit h₀ 0 h → Below 256 dk → Below (2 ^ 64) mask_words → (cs : List Call)
      → joined_dk p (leaves_all h cs).key ≡ reduced_dk p dk
  imported_kept {h = h} i bytes words cs = joined_kept h cs ∙ imported_joins i bytes words
