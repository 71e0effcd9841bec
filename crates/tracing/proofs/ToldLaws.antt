-- Told no step, a run answers as its rows alone; told a step, it answers and hands back what its trace does: where a
-- row refuses both answers are that row's, and where none does both are row 8's.
use Rattle.std.specs.Prelude.{◌≡◌, Bool, not, List, [], ◌∷◌, ◌++◌, ℕ, ◌+◌, ◌<◌, ◌≤◌, leb, ltb, Err}
use Rattle.std.proofs.Math.Path.{refl, ap}
use Rattle.std.proofs.Common.{sym, ◌∙◌, add-one, arith, lt-ltb, le-ltb, le-leb}
use Rattle.std.proofs.Math.Bool.{true, false, cond}
use Rattle.std.proofs.Math.Decide.{dec_lt}
use Rattle.std.proofs.lemmas.Bool.{lt-leb}
use Rattle.std.proofs.Math.Dec.{leb-zero}
use Rattle.worksheet.specs.declared.Recorder.{Recorder}
use Rattle.worksheet.specs.Prog.{Prog}
use Rattle.worksheet.specs.Recording.{noted}
use Rattle.worksheet.specs.Run.{run}
use Rattle.worksheet.specs.Ran.{Ran}
use Rattle.refusals.specs.declared.Refusal.{Refusal}
use Rattle.refusals.specs.declared.Refusal.TheVariants.{NoSuchStep}
use Rattle.refusals.specs.Refusals.{Answer, Done, number, Row, row, answer, after}
use Rattle.refusals.specs.RefusalLaws.{refusal_number-positive, number-done, after_refused}
use Rattle.tracing.specs.Told.{told_answer, told_value, left_of}
use Rattle.tracing.specs.Trace.{step_answer, step_value}

-- ---- rows, and more behind them

-- where one refuses, those behind change nothing
answer_refused : (rows more : List Row) → 0 < number (answer rows) → answer (rows ++ more) ≡ answer rows
unfolding answer
answer_refused [] more h = absurd (omega arith)
answer_refused (r ∷ rows) more h = go r.applies (answer_refused rows more) h
  where
    go : (b : Bool) → (0 < number (answer rows) → answer (rows ++ more) ≡ answer rows)
        → 0 < number (cond b (Err r.refusal) (answer rows))
        → cond b (Err r.refusal) (answer (rows ++ more)) ≡ cond b (Err r.refusal) (answer rows)
    go true f h = refl
    go false f h = f h

-- where none refuses, those behind decide
answer_passed : (rows more : List Row) → answer rows ≡ Done → answer (rows ++ more) ≡ answer more
unfolding answer
answer_passed [] more e = refl
answer_passed (r ∷ rows) more e = go r.applies (answer_passed rows more) e
  where
    go : (b : Bool) → (answer rows ≡ Done → answer (rows ++ more) ≡ answer more)
        → cond b (Err r.refusal) (answer rows) ≡ Done → cond b (Err r.refusal) (answer (rows ++ more)) ≡ answer more
    go true f e = absurd (omega (arith, ap number e, refusal_number-positive r.refusal))
    go false f e = f e

-- a row that doesn't apply changes nothing
answer_idle : (rows : List Row) (r : Refusal) → answer (rows ++ row false r ∷ []) ≡ answer rows
unfolding answer
answer_idle [] r = refl
answer_idle (x ∷ rows) r = ap (cond x.applies (Err x.refusal)) (answer_idle rows r)

-- ---- told a step or none

module _ (rows : List Row) (n : ℕ) where
  pub told_none : told_answer rows n 0 ≡ answer rows
  unfolding told_answer
  told_none = ap (λ (b : Bool). answer (rows ++ row (not b) NoSuchStep ∷ [])) (leb-zero n) ∙ answer_idle rows NoSuchStep

  pub told_step : (t : ℕ) → told_answer rows n (t + 1) ≡ step_answer rows n t
  unfolding told_answer step_answer
  told_step t = rw (add-one t)

  -- as the code goes: a row refuses
  pub told_refused : (left : ℕ) {a : Answer} → answer rows ≡ a → 0 < number a → told_answer rows n left ≡ a
  unfolding told_answer
  told_refused left e h = answer_refused rows _ (rw e h) ∙ e

  module _ (passed : answer rows ≡ Done) where
    -- none does
    told_passed : (left : ℕ) → told_answer rows n left ≡ cond (leb left n) Done (Err NoSuchStep)
    unfolding told_answer answer
    told_passed left = answer_passed rows _ passed ∙ go (leb left n)
      where
        go : (b : Bool) → cond (not b) (Err NoSuchStep) Done ≡ cond b Done (Err NoSuchStep)
        go true = refl
        go false = refl

    pub told_done : (left : ℕ) → left ≤ n → told_answer rows n left ≡ Done
    told_done left h = told_passed left ∙ rw (le-leb left n h)

    pub told_over : (left : ℕ) → n < left → told_answer rows n left ≡ Err NoSuchStep
    told_over left h = told_passed left ∙ rw (lt-leb left n h)

    pub trace_passed : (t : ℕ) → step_answer rows n t ≡ cond (ltb t n) Done (Err NoSuchStep)
    trace_passed t = sym (told_step t) ∙ told_passed (t + 1) ∙ rw (add-one t)

-- ---- what the recorder keeps is the trace's entry

told_entry : (entries : List ℕ) (t : ℕ) → told_value (t + 1) entries ≡ step_value entries t
unfolding told_value step_value
told_entry entries t = rw (add-one t) (noted entries t 0)

pub ran-value : {A : Type 0} {p : Prog A} {left : ℕ} {ws cs ws' cs' : List ℕ} {a : A} {r : Recorder}
    → Ran p (record { left = left; value = 0 }) ws cs a r ws' cs' → r.value ≡ told_value left (run p ws cs).entries
unfolding told_value
ran-value h = sym (ap (λ (r : Recorder). r.value) h.seen)

-- ---- step t of a run of m steps, told as the code tells it

-- both answers are one refusal
record Refused (a b : Answer) : Type 0 where
  same : a ≡ b
  refusal : 0 < number b

module _ (rows : List Row) (n m t : ℕ) (steps : answer rows ≡ Done → n ≡ m) where
  -- a step past the end is told as one past it
  past : m ≤ t → Refused (told_answer rows n (m + 1)) (step_answer rows n t)
  past h = go (dec_lt 0 (number (answer rows)))
    where
      go : Dec (0 < number (answer rows)) → Refused (told_answer rows n (m + 1)) (step_answer rows n t)
      go (yes r) =
          let e : step_answer rows n t ≡ answer rows = sym (told_step rows n t) ∙ told_refused rows n (t + 1) refl r in
          record { same = told_refused rows n (m + 1) refl r ∙ sym e; refusal = rw e r }
      go (no r) =
          let d = number-done (answer rows) (omega arith) in
          let w = steps d in
          let e : step_answer rows n t ≡ Err NoSuchStep =
          sym (told_step rows n t) ∙ told_over rows n d (t + 1) (omega arith) in
          record { same = told_over rows n d (m + 1) (omega arith) ∙ sym e; refusal = rw e (omega arith) }

  pub left_answer : told_answer rows n (left_of t m) ≡ step_answer rows n t
  left_answer = go (dec_lt t m)
    where
      go : Dec (t < m) → told_answer rows n (left_of t m) ≡ step_answer rows n t
      go (yes h) = rw (lt-ltb t m h) (told_step rows n t)
      go (no h) = rw (le-ltb t m (omega arith)) (past (omega arith)).same

  pub left_value : (entries : List ℕ) (v : ℕ)
      → after (number (step_answer rows n t)) (told_value (left_of t m) entries) v
      ≡ after (number (step_answer rows n t)) (step_value entries t) v
  left_value entries v = go (dec_lt t m)
    where
      a : ℕ
      a = number (step_answer rows n t)

      go : Dec (t < m) → after a (told_value (left_of t m) entries) v ≡ after a (step_value entries t) v
      go (yes h) = rw (lt-ltb t m h) (ap (λ (x : ℕ). after a x v) (told_entry entries t))
      go (no h) =
          let r : a ≡ 0 → ⊥ = λ e. omega (arith, (past (omega arith)).refusal) in
          after_refused a (told_value (left_of t m) entries) v r ∙ sym (after_refused a (step_value entries t) v r)
