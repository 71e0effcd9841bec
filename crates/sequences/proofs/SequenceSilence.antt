-- The silence of every run in a sequence: over all first shares the calls before a run leave each split as often as
-- import alone does (`moved_firsts`), and of the run on import's split demand 3 speaks; whether it is carried out no
-- choice decides, and neither does the key.
use Rattle.std.specs.Prelude.{◌≡◌, true, false, not, List, [], ◌∷◌, ℕ, ◌*◌, ltb, replicate, Err}
use Rattle.std.proofs.Math.Path.{refl, ap, ap₂}
use Rattle.std.proofs.Common.{sym, ◌∙◌, subst, arith, eqb-true}
use Rattle.std.proofs.Math.Bool.{Bool, cond}
use Rattle.std.proofs.Math.Dec.{eqb}
use Rattle.std.proofs.lemmas.List.{length-replicate}
use Rattle.words.specs.BoundedLaws.{below_zeros}
use Rattle.worksheet.specs.Sum.{when}
use Rattle.worksheet.specs.Count.{strips, hit}
use Rattle.refusals.specs.declared.Refusal.TheVariants.{WrongLength, ShortStream, NoSuchStep, NoSuchRank}
use Rattle.refusals.specs.declared.Refusal.TheVariants.{LimitReached}
use Rattle.refusals.specs.Refusals.{Answer, Done, number, answer, row, lent, sized}
use Rattle.refusals.specs.RefusalLaws.{number-done, done_passed}
use Rattle.parameters.specs.declared.Edition.{Edition}
use Rattle.parameters.specs.declared.Parameters.{Parameters}
use Rattle.parameters.specs.Ranks.{is_rank, of_rank}
use Rattle.parameters.specs.FitsLaws.{fits-of_rank}
use Rattle.kpke.specs.KPke.{matrix_full}
use Rattle.mlkem.specs.MlKem.{public_part}
use Rattle.mlkem.specs.Calls.{rho_of}
use Rattle.split_key.specs.SplitKey.{SplitKey, public_of, split}
use Rattle.split_key.specs.KeyState.{KeyState, key_state}
use Rattle.split_key.specs.AcceptedLaws.{accepted_public}
use Rattle.stages.specs.Counts.{strip_words, strip_coeffs}
use Rattle.stages.specs.EntryCounts.{steps}
use Rattle.decapsulation.specs.Calls.{length_row}
use Rattle.silence.specs.Claim.{over_choices, Key, Ciphertext, gives, choices}
use Rattle.silence.specs.ChoicesInRange.{Choice, over_choices-when}
use Rattle.silence.specs.ImportedAnswers.{full, imported_trace, imported_decaps_answer}
use Rattle.silence.proofs.Demand3.{demand3}
use Rattle.sequences.specs.Sequence.{Call, decaps, trace, answer_of, leaves_all}
use Rattle.sequences.specs.Claim.{AllTyped, entries_of, shown, choices_in, SilentIn}
use Rattle.sequences.proofs.MovedFirsts.{Looks, split_looks, moved_firsts}

-- a value is shown where the call is carried out
hit-shown : (h : KeyState) (c : Call) (t v : ℕ)
    → hit t v (shown h c) ≡ when (eqb (number (answer_of h c)) 0) (hit t v (entries_of h c))
unfolding hit
hit-shown h c t v = go (eqb (number (answer_of h c)) 0)
  where
    go : (b : Bool) → hit t v (cond b (entries_of h c) []) ≡ when b (hit t v (entries_of h c))
    go true = refl
    go false = refl

module _ (rank limit : ℕ) (before : List Call) (typed : AllTyped before) (e : Edition) where
  abbrev p : Parameters
  p = of_rank rank

  abbrev firsts : ℕ
  firsts = 256 * p.k

  -- ---- a run whose answer no choice decides: by the matrix streams and the count it is `verdict`

  module _ {c : List ℕ} (ct : Ciphertext p c) (run : List ℕ → List ℕ → Call) (verdict : Bool → ℕ → Answer)
      (needs-full : (b : Bool) (n : ℕ) → verdict b n ≡ Done → b ≡ true)
      (answered : (dk : List ℕ) → Key p dk → (n : ℕ) (a w ws cs : List ℕ)
      → Choice firsts (strip_words e p) (strip_coeffs p) a w ws cs
      → answer_of (key_state (split p dk a w) limit n) (run ws cs) ≡ verdict (full p dk) n)
      (entries : (dk : List ℕ) (n : ℕ) (a w ws cs : List ℕ) (t v : ℕ)
      → hit t v (entries_of (key_state (split p dk a w) limit n) (run ws cs)) ≡ gives e p dk c t v a w ws cs) where
    -- the choices by which the run shows v at step t, where it finds the count n
    counted : {dk : List ℕ} → Key p dk → (n t v : ℕ)
        → over_choices firsts (strip_words e p) (strip_coeffs p) (λ a w ws cs.
        hit t v (shown (key_state (split p dk a w) limit n) (run ws cs)))
        ≡ when (eqb (number (verdict (full p dk) n)) 0)
        (choices e p firsts (strip_words e p) (strip_coeffs p) dk c t v)
    unfolding choices
    counted {dk} key n t v =
        over_choices-when firsts (strip_words e p) (strip_coeffs p) b (gives e p dk c t v)
        (λ a w ws cs h.
        hit-shown (key_state (split p dk a w) limit n) (run ws cs) t v
        ∙ ap₂ (λ (r : Answer) (x : ℕ). when (eqb (number r) 0) x) (answered dk key n a w ws cs h)
        (entries dk n a w ws cs t v))
        ∙ within b (over_choices firsts (strip_words e p) (strip_coeffs p) (gives e p dk c t v)) refl
      where
        b : Bool
        b = eqb (number (verdict (full p dk) n)) 0

        within : (d : Bool) (x : ℕ) → b ≡ d → when d x ≡ when d (when (full p dk) x)
        within false x f = refl
        within true x f =
            ap (λ (s : Bool). when s x)
            (sym (needs-full (full p dk) n (number-done (verdict (full p dk) n) (eqb-true _ 0 f))))

    -- as the calls before it leave the splits
    choices_in_counted : {dk : List ℕ} → Key p dk → {key₀ : SplitKey} → Looks p (public_of p dk) key₀ → (t v : ℕ)
        → choices_in rank limit before firsts (strip_words e p) (strip_coeffs p) run dk t v
        ≡ when (eqb (number (verdict (full p dk) (leaves_all (key_state key₀ limit 0) before).count)) 0)
        (choices e p firsts (strip_words e p) (strip_coeffs p) dk c t v)
    unfolding choices_in
    choices_in_counted {dk} key {key₀} k t v =
        moved_firsts key limit
        (λ h. strips (strip_words e p) (strip_coeffs p) (λ ws cs. hit t v (shown h (run ws cs)))) k 0 before typed
        ∙ counted key (leaves_all (key_state key₀ limit 0) before).count t v

    silent : {dk dk' : List ℕ} → Key p dk → Key p dk' → public_part p dk ≡ public_part p dk' → (t v : ℕ)
        → choices_in rank limit before firsts (strip_words e p) (strip_coeffs p) run dk t v
        ≡ choices_in rank limit before firsts (strip_words e p) (strip_coeffs p) run dk' t v
    silent {dk} {dk'} key key' same t v =
        choices_in_counted key looks t v
        ∙ ap₂ (λ (b : Bool) (x : ℕ). when (eqb (number (verdict b n)) 0) x)
        (ap (λ (l : List ℕ). matrix_full p.k (rho_of p l)) same)
        ((demand3 e p (fits-of_rank rank)).equal key key' ct same t v)
        ∙ sym (choices_in_counted key' (subst (λ (l : List ℕ). Looks p l key₀) public looks) t v)
      where
        -- any key that looks so: dk split with zeros
        a₀ : List ℕ
        a₀ = replicate firsts 0

        key₀ : SplitKey
        key₀ = split p dk a₀ (replicate 4 0)

        looks : Looks p (public_of p dk) key₀
        looks =
            split_looks key a₀ (replicate 4 0) (length-replicate {A = ℕ} firsts 0) (below_zeros firsts (omega arith))
            (length-replicate {A = ℕ} 4 0)

        public : public_of p dk ≡ public_of p dk'
        public = accepted_public p key.accepts key'.accepts same

        n : ℕ
        n = (leaves_all (key_state key₀ limit 0) before).count

  -- ---- the two runs

  -- told another number than a rank, no run is carried out
  by_rank_full : (f : Answer) (b : Bool) → (f ≡ Done → b ≡ true) → cond (is_rank rank) f (Err NoSuchRank) ≡ Done
      → b ≡ true
  by_rank_full f b h = go (is_rank rank)
    where
      go : (t : Bool) → cond t f (Err NoSuchRank) ≡ Done → b ≡ true
      go true d = h d
      go false d = absurd (omega (arith, ap number d))

  abbrev decaps_verdict : List ℕ → List ℕ → Bool → ℕ → Answer
  decaps_verdict k0 k1 b n =
      answer
      (length_row (lent k0 4 ∷ lent k1 4 ∷ [])
      ∷ row (not (ltb n limit)) LimitReached
      ∷ row (not b) ShortStream
      ∷ [])

  decaps_verdict_full : (k0 k1 : List ℕ) (b : Bool) (n : ℕ) → decaps_verdict k0 k1 b n ≡ Done → b ≡ true
  decaps_verdict_full k0 k1 b n d =
      let r₁ = done_passed (sized (lent k0 4 ∷ lent k1 4 ∷ [])) WrongLength _ d in
      let r₁₁ = done_passed (ltb n limit) LimitReached _ r₁.1 in
      (done_passed b ShortStream [] r₁₁.1).0

  abbrev trace_verdict : ℕ → Bool → Answer
  trace_verdict step b = cond b (cond (ltb step (steps e p)) Done (Err NoSuchStep)) (Err ShortStream)

  trace_verdict_full : (step : ℕ) (b : Bool) → trace_verdict step b ≡ Done → b ≡ true
  trace_verdict_full step true d = refl
  trace_verdict_full step false d = absurd (omega (arith, ap number d))

  pub sequence_silence : SilentIn rank limit before e (256 * (of_rank rank).k) (strip_words e (of_rank rank))
      (strip_coeffs (of_rank rank))
  unfolding answer_of
  sequence_silence =
      record {
        decapsulation = λ {dk} {dk'} {c} key key' ct same k0 k1 t v.
            silent ct (λ ws cs. decaps rank e c ws cs k0 k1)
            (λ b n. cond (is_rank rank) (decaps_verdict k0 k1 b n) (Err NoSuchRank))
            (λ b n. by_rank_full (decaps_verdict k0 k1 b n) b (decaps_verdict_full k0 k1 b n))
            (λ dk₁ key₁ n a w ws cs h.
            ap (λ (r : Answer). cond (is_rank rank) r (Err NoSuchRank))
            (imported_decaps_answer e key₁ ct a w ws cs h limit n k0 k1))
            (λ dk n a w ws cs t v. refl)
            key key' same t v;
        traced = λ {dk} {dk'} {c} key key' ct same step t v.
            silent ct (λ ws cs. trace rank e c ws cs step)
            (λ b n. cond (is_rank rank) (trace_verdict step b) (Err NoSuchRank))
            (λ b n. by_rank_full (trace_verdict step b) b (trace_verdict_full step b))
            (λ dk₁ key₁ n a w ws cs h.
            ap (λ (r : Answer). cond (is_rank rank) r (Err NoSuchRank)) (imported_trace e key₁ ct a w ws cs h step))
            (λ dk n a w ws cs t v. refl)
            key key' same t v;
      }
