-- What the calls answer and leave, by their tests of rows 1 and 11 and by what the one function behind them leaves.
use mathlib.Core.Path.{◌≡◌, refl, sym, ap, ◌∙◌}
use mathlib.Core.Bool.{Bool, true, false, ◌&&◌}
use mathlib.Core.List.{List, [], ◌∷◌, ◌++◌}
use Prim.Native.Nat.{ℕ, ◌+◌, ◌*◌, ◌<◌, ◌≤◌}
use borrow.Author.Tests.{lt-ltb, le-ltb}
use lib.ListN.{length}
use Rattle.worksheet.specs.SharedList.{shared_list}
use Rattle.std.specs.Prelude.{Err}
use Rattle.refusals.specs.declared.Refusal.{Refusal}
use Rattle.refusals.specs.declared.Refusal.TheVariants.{WrongLength, LimitReached}
use Rattle.refusals.specs.Refusals.{Answer, refusal_number, number, answer, after, Lent, lent, sized}
use Rattle.refusals.specs.SameLaws.{and_left, and_right}
use Rattle.refusals.specs.RefusalLaws.{refusal_number-positive, refused, passed, after_kept, wants, sized-exact}
use Rattle.refusals.specs.RefusalLaws.{sized_both}
use Rattle.tracing.specs.Told.{told_answer, told_value, left_of}
use Rattle.tracing.specs.Trace.{step_answer, step_value}
use Rattle.tracing.proofs.ToldLaws.{told_none, left_answer, left_value}
use Rattle.parameters.specs.declared.Edition.{Edition}
use Rattle.parameters.specs.declared.Parameters.{Parameters}
use Rattle.parameters.specs.Fits.{Fits}
use Rattle.parameters.specs.Lengths.{ek_bytes, ct_bytes}
use Rattle.stages.specs.EntryCounts.{steps}
use Rattle.stages.specs.Counts.{strip_words, strip_coeffs}
use Rattle.stages.specs.Lent.{Long}
use Rattle.decapsulation_run.specs.Input.{Input, range_rows, sheet}
use Rattle.decapsulation_run.specs.InputLaws.{sheet-steps}
use Rattle.decapsulation_run.specs.Sized.{CallSized}
use Rattle.decapsulation_run.specs.Told.{Told}
use Rattle.decapsulation.specs.Calls.{lengths, trace_rows, decaps_answer, decaps_shares, Decapsulated}
use Rattle.decapsulation.specs.Calls.{trace_answer, trace_value, Traced}
use Rattle.decapsulation.specs.AnswerLaws.{sized_lengths}

-- the lengths as the code counts them
pub wanted : (e : Edition) (p : Parameters) (g : Input) {h ct w c : ℕ} → h ≡ ek_bytes p → ct ≡ ct_bytes p
    → w ≡ strip_words e p → c ≡ strip_coeffs p
    → (256 * p.k) ∷ (256 * p.k) ∷ 4 ∷ 4 ∷ (h + 32) ∷ ct ∷ w ∷ c ∷ [] ≡ wants (lengths e p g)
wanted e p g a b c d = rw (a, b, c, d) refl

-- where the shares of K go
abbrev pub shares : List ℕ → List ℕ → List Lent
shares k0 k1 = lent k0 4 ∷ lent k1 4 ∷ []

-- ---- decapsulation, whose two tests of row 1 have the outcomes a and b

module _ (e : Edition) (p : Parameters) (g : Input) (limit count : ℕ) (k0 k1 : List ℕ) {a b : Bool}
    (i : a ≡ sized (lengths e p g)) (o : b ≡ sized (shares k0 k1)) where
  tested : (a && b) ≡ sized (lengths e p g ++ shares k0 k1)
  tested = rw (i, o) (sym (sized_both (lengths e p g) (shares k0 k1)))

  decaps_refused : (r : Refusal) → decaps_answer e p g limit count k0 k1 ≡ Err r
      → Decapsulated e p g limit count k0 k1 (refusal_number r) count k0 k1
  decaps_refused r f =
      let h = refusal_number-positive r in
      record {
        answer = ap number (sym f);
        count = after_kept (Err r) (count + 1) count h;
        share0 = after_kept (Err r) _ k0 h;
        share1 = after_kept (Err r) _ k1 h;
      }

  pub wrong_length : (a && b) ≡ false → Decapsulated e p g limit count k0 k1 (refusal_number WrongLength) count k0 k1
  unfolding decaps_answer
  wrong_length f = decaps_refused WrongLength (refused WrongLength _ (sym tested ∙ f))

  module _ (t : (a && b) ≡ true) where
    pub limit_reached : limit ≤ count → Decapsulated e p g limit count k0 k1 (refusal_number LimitReached) count k0 k1
    unfolding decaps_answer
    limit_reached h =
        decaps_refused LimitReached
        (passed WrongLength _ (sym tested ∙ t) (refused LimitReached _ (le-ltb count limit h)))

    pub decaps_sized : Fits p → CallSized e p g (shared_list k0 k1)
    decaps_sized f =
        let x = sized-exact (shares k0 k1) (sym o ∙ and_right a b t) in
        record {
          fits = f;
          input = sized_lengths e p g (sym i ∙ and_left a b t);
          out = record { long0 = x.0; long1 = x.1.0 };
        }

    -- behind rows 1 and 11
    pub told-decapsulated : {v n count' : ℕ} {k0' k1' : List ℕ} {v' : ℕ} → count < limit
        → Told e p 0 g k0 k1 v n k0' k1' v' → count' ≡ after n (count + 1) count
        → Decapsulated e p g limit count k0 k1 n count' k0' k1'
    unfolding decaps_answer decaps_shares
    told-decapsulated h d c =
        let f : decaps_answer e p g limit count k0 k1 ≡ answer (range_rows p g) =
        passed WrongLength _ (sym tested ∙ t) (passed LimitReached _ (lt-ltb count limit h) refl) in
        record {
          answer = d.answer ∙ ap number (told_none (range_rows p g) (length (sheet e p g).entries) ∙ sym f);
          count = c;
          share0 = d.share0;
          share1 = d.share1;
        }

-- a refused call isn't counted
pub refused_kept : {x : Answer} {r : Refusal} → x ≡ Err r → (count : ℕ) → count ≡ after (number x) (count + 1) count
refused_kept {r = r} h count = rw h (after_kept (Err r) (count + 1) count (refusal_number-positive r))

-- ---- trace

module _ (e : Edition) (p : Parameters) (g : Input) (t v : ℕ) {a : Bool} (i : a ≡ sized (lengths e p g)) where
  pub trace_refused : a ≡ false → Traced e p g t v (refusal_number WrongLength) v
  unfolding trace_answer trace_value step_answer
  trace_refused f =
      record {
        answer = ap number (sym (refused WrongLength _ (sym i ∙ f)));
        value = after_kept (Err WrongLength) (step_value (sheet e p g).entries t) v
            (refusal_number-positive WrongLength);
      }

  module _ (h : a ≡ true) where
    pub trace_sized : (k0 k1 : List ℕ) → Fits p → Long 4 (shared_list k0 k1) → CallSized e p g (shared_list k0 k1)
    trace_sized k0 k1 f k = record { fits = f; input = sized_lengths e p g (sym i ∙ h); out = k }

    -- behind row 1, told as the code tells step t
    pub told-traced : {m left n v' : ℕ} {k0 k1 k0' k1' : List ℕ} → steps e p ≡ m → left ≡ left_of t m
        → Told e p left g k0 k1 v n k0' k1' v' → Traced e p g t v n v'
    unfolding trace_answer trace_value step_answer
    told-traced {m} {left} {n} s f o =
        let rs = range_rows p g in
        let entries = (sheet e p g).entries in
        let c = sheet-steps e p g (sized_lengths e p g (sym i ∙ h)) ∙ s in
        let r : step_answer (trace_rows e p g) (length entries) t ≡ step_answer rs (length entries) t =
        passed WrongLength _ (sym i ∙ h) refl in
        let x : n ≡ number (step_answer rs (length entries) t) =
        o.answer
        ∙ ap (λ (l : ℕ). number (told_answer rs (length entries) l)) f
        ∙ ap number (left_answer rs (length entries) m t (λ d. c)) in
        record {
          answer = x ∙ ap number (sym r);
          value =
              o.value
              ∙ ap (λ (l : ℕ). after n (told_value l entries) v) f
              ∙ ap (λ (y : ℕ). after y (told_value (left_of t m) entries) v) x
              ∙ left_value rs (length entries) m t (λ d. c) entries v
              ∙ sym (ap (λ (y : ℕ). after y (step_value entries t) v) x);
        }
