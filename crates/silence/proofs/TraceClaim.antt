-- Demand 3 in terms of the trace call: counted over the same choices, what the trace hands back. Where the matrix
-- streams are full and the step is the worksheet's, the trace is carried out and hands back the worksheet's entry; else
-- no choice counts.
use Rattle.std.specs.Prelude.{◌≡◌, refl, Bool, true, false, cond, List, ℕ, ◌*◌, ◌<◌, eqb, ltb, get_or, Err}
use Rattle.std.proofs.Common.{sym, ◌∙◌, arith, lt-ltb, le-ltb}
use Rattle.std.proofs.Math.Path.{ap}
use Rattle.std.proofs.Math.Decide.{dec_lt}
use Rattle.std.proofs.Math.ListN.{length}
use Rattle.worksheet.specs.Sum.{when}
use Rattle.worksheet.specs.CountLaws.{hit-get_or}
use Rattle.refusals.specs.declared.Refusal.TheVariants.{ShortStream, NoSuchStep}
use Rattle.refusals.specs.Refusals.{Answer, Done, number}
use Rattle.parameters.specs.declared.Edition.{Edition}
use Rattle.parameters.specs.declared.Parameters.{Parameters}
use Rattle.parameters.specs.Fits.{Fits}
use Rattle.stages.specs.Counts.{strip_words, strip_coeffs}
use Rattle.stages.specs.EntryCounts.{steps}
use Rattle.tracing.specs.Trace as trace
use Rattle.decapsulation_run.specs.Input.{Input, sheet}
use Rattle.decapsulation.specs.Calls.{imported, trace_value}
use Rattle.silence.specs.Claim.{Key, Ciphertext, gives, choices, hands_back, trace_choices, Silent}
use Rattle.silence.specs.ChoicesInRange.{Choice, over_choices-when}
use Rattle.silence.specs.ImportedAnswers.{full, imported_steps, imported_trace}
use Rattle.silence.proofs.DrawnChoices.{hit_past}
use Rattle.silence.proofs.Demand3.{demand3}

module _ (e : Edition) {p : Parameters} {dk c : List ℕ} (key : Key p dk) (ct : Ciphertext p c) where
  module _ (t v : ℕ) (a w ws cs : List ℕ) (h : Choice (256 * p.k) (strip_words e p) (strip_coeffs p) a w ws cs) where
    abbrev g : Input
    g = imported p dk a w c ws cs

    -- the trace hands back the worksheet's entry
    hands_back-gives : hands_back e p g t v ≡ when (full p dk) (gives e p dk c t v a w ws cs)
    unfolding trace_value trace.step_value
    hands_back-gives =
        ap (λ (r : Answer). when (eqb (number r) 0) (when (eqb (get_or (sheet e p g).entries t 0) v) 1))
        (imported_trace e key ct a w ws cs h t)
        ∙ go (full p dk) (dec_lt t (steps e p))
      where
        long : length (sheet e p g).entries ≡ steps e p
        long = imported_steps e key ct a w ws cs h

        go : (b : Bool) → Dec (t < steps e p)
            → when (eqb (number (cond b (cond (ltb t (steps e p)) Done (Err NoSuchStep)) (Err ShortStream))) 0)
            (when (eqb (get_or (sheet e p g).entries t 0) v) 1)
            ≡ when b (gives e p dk c t v a w ws cs)
        go false d = refl
        go true (yes l) =
            rw (lt-ltb t (steps e p) l) (sym (hit-get_or t v (sheet e p g).entries (omega (arith, long))))
        go true (no l) = rw (le-ltb t (steps e p) (omega arith)) (sym (hit_past t v _ (omega (arith, long))))

  trace_choices-choices : (t v : ℕ)
      → trace_choices e p (256 * p.k) (strip_words e p) (strip_coeffs p) dk c t v
      ≡ choices e p (256 * p.k) (strip_words e p) (strip_coeffs p) dk c t v
  unfolding trace_choices choices
  trace_choices-choices t v =
      over_choices-when (256 * p.k) (strip_words e p) (strip_coeffs p) (full p dk) (gives e p dk c t v)
      (hands_back-gives t v)

-- under two accepted keys with one public part equally many choices make the trace hand back a value
pub demand3_trace : (e : Edition) (p : Parameters) → Fits p
    → Silent e p (steps e p) (trace_choices e p (256 * p.k) (strip_words e p) (strip_coeffs p))
demand3_trace e p fits =
    let silent = demand3 e p fits in
    record {
      steps = silent.steps;
      equal = λ key key' ct same t v.
          trace_choices-choices e key ct t v
          ∙ silent.equal key key' ct same t v
          ∙ sym (trace_choices-choices e key' ct t v);
    }
