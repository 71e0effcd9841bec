-- The tests are the rows' own, in their order; where all are passed, the code expanded the matrix from rho.
use mathlib.Core.Path.{◌≡◌, refl, sym, ap, ◌∙◌}
use mathlib.Core.Bool.{Bool, true, false, not}
use mathlib.Core.List.{List, [], ◌∷◌}
use Prim.Native.Nat.{ℕ}
use native.Mathlib.Omega.{arith}
use Rattle.std.specs.Prelude.{Err}
use Rattle.refusals.specs.declared.Refusal.{Refusal}
use Rattle.refusals.specs.declared.Refusal.TheVariants.{MaskRange, ShareRange, ShortStream}
use Rattle.refusals.specs.Refusals.{number, row, answer}
use Rattle.refusals.specs.RefusalLaws.{refusal_number-positive, refused, passed, no_row}
use Rattle.parameters.specs.declared.Parameters.{Parameters}
use Rattle.sampling.specs.SampleAnswer.{answer_of}
use Rattle.sampling.specs.SampleLaws.{answered_done}
use Rattle.kpke.specs.KPke.{matrix_full}
use Rattle.decapsulation_run.specs.Input.{Input, range_rows}
use Rattle.decapsulation_run.specs.Lent.{input_of}
use Rattle.decapsulation_run.specs.InputLaws.{range_passed}
use Rattle.decapsulation_run.specs.Ranges.{RangesTested}
use Rattle.decapsulation_run.proofs.Rho.{rho_part, expanded_public}
use Rattle.decapsulation_run.proofs.ranges.range_rows.Goals as goal

refusal : (p : Parameters) (g : Input) (a : List ℕ) (r : Refusal) → answer (range_rows p g) ≡ Err r
    → RangesTested p g (Err r) a
refusal p g a r f =
    record { answer = sym f; matrix = λ e. absurd (omega (arith, ap number e, refusal_number-positive r)) }

-- row 7, as `expand` answers
row7 : (b : Bool) → answer (row (not b) ShortStream ∷ []) ≡ answer_of b
row7 true = passed ShortStream _ refl no_row
row7 false = refused ShortStream _ refl

-- ---- refusals, and the matrix
pub returns-then-not-reduced : goal.returns-then-not-reduced
returns-then-not-reduced c =
    refusal _ _ _ MaskRange (refused MaskRange _ (sym c.reduced.ensures ∙ c.if-not-reduced.true))

pub returns-then-not-both_reduced : goal.returns-then-not-both_reduced
returns-then-not-both_reduced c =
    refusal _ _ _ ShareRange
    (passed MaskRange _ (sym c.reduced.ensures ∙ c.if-not-reduced.false)
    (refused ShareRange _ (sym c.both_reduced.ensures ∙ c.if-not-both_reduced.true)))

pub returns : goal.returns
returns c =
    let p = c.args.p in
    let key = c.args.input.now.key.public.now in
    let h = c.vector_bytes-rho.ensures in
    record {
      answer =
          c.expand.ensures.answer
          ∙ sym
          (range_passed p (input_of c.args.input.now)
          (sym c.reduced.ensures ∙ c.if-not-reduced.false)
          (sym c.both_reduced.ensures ∙ c.if-not-both_reduced.false)
          (row7 _ ∙ ap (λ (l : List ℕ). answer_of (matrix_full p.k l)) (sym (rho_part key h c.requires.public))));
      matrix = λ e.
          let t = answered_done _ (sym c.expand.ensures.answer ∙ e) in
          expanded_public key h c.requires.public p.k _ t (c.expand.ensures.holds t);
    }
