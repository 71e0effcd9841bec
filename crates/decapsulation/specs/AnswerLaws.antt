-- What the calls answer, by the outcomes of their tests.
use Rattle.std.specs.Prelude.{◌≡◌, Bool, true, false, not, cond, ◌&&◌, ℕ, ◌+◌, ◌<◌, ltb, length, Err}
use Rattle.std.proofs.Math.Path.{refl, ap}
use Rattle.std.proofs.Common.{sym, ◌∙◌}
use mathlib.Core.List.{List, [], ◌∷◌, ◌++◌}
use borrow.Author.Tests.{ltb-true}
use Rattle.refusals.specs.declared.Refusal.TheVariants.{WrongLength, MaskRange, ShortStream}
use Rattle.refusals.specs.declared.Refusal.TheVariants.{NoSuchStep, LimitReached}
use Rattle.refusals.specs.Refusals.{Done, Row, row, answer, lent, sized}
use Rattle.refusals.specs.SameLaws.{and_left}
use Rattle.refusals.specs.RefusalLaws.{refusal_number-positive, refused, passed, no_row, done_passed}
use Rattle.refusals.specs.RefusalLaws.{sized-exact, exact-sized, sized_both}
use Rattle.tracing.specs.Trace as trace
use Rattle.tracing.proofs.ToldLaws.{told_refused, told_step, trace_passed}
use Rattle.parameters.specs.declared.Edition.{Edition}
use Rattle.parameters.specs.declared.Parameters.{Parameters}
use Rattle.kpke.specs.KPke.{matrix_full}
use Rattle.refusals.specs.Reduced.{reduced}
use Rattle.mlkem.specs.Calls.{rho_of}
use Rattle.split_key.specs.SplitKey.{ek_of}
use Rattle.stages.specs.EntryCounts.{steps}
use Rattle.decapsulation_run.specs.Input.{Input, sheet}
use Rattle.decapsulation_run.specs.InputLaws.{range_passed, sheet-steps}
use Rattle.decapsulation_run.specs.Sized.{Sized}
use Rattle.decapsulation.specs.Calls.{lengths, length_row, decaps_answer, trace_rows, trace_answer}

-- what decapsulation that is carried out has tested
pub record Tested (e : Edition) (p : Parameters) (g : Input) (limit count : ℕ) : Type 0 where
  pub long : Sized e p g
  pub usable : count < limit
  pub masks : reduced g.coeffs ≡ true

module _ (e : Edition) (p : Parameters) (g : Input) where
  -- ---- lengths

  pub sized_lengths : sized (lengths e p g) ≡ true → Sized e p g
  sized_lengths h =
      let x = sized-exact (lengths e p g) h in
      let y = x.1.1.1.1 in
      record {
        key = record { s0 = x.0; s1 = x.1.0; z0 = x.1.1.0; z1 = x.1.1.1.0; public = y.0 };
        ct = y.1.0;
        words = y.1.1.0;
        coeffs = y.1.1.1.0;
      }

  lengths_sized : Sized e p g → sized (lengths e p g) ≡ true
  lengths_sized l =
      let k = l.key in
      exact-sized (lengths e p g)
      (k.s0, (k.s1, (k.z0, (k.z1, (k.public, (l.ct, (l.words, (l.coeffs, tt))))))))

  -- ---- what is known of a call by its answer

  -- decapsulation that is carried out
  pub decaps_tested : (limit count : ℕ) (k0 k1 : List ℕ) → decaps_answer e p g limit count k0 k1 ≡ Done
      → Tested e p g limit count
  unfolding decaps_answer
  decaps_tested limit count k0 k1 d =
      let k = lent k0 4 ∷ lent k1 4 ∷ [] in
      let r₁ = done_passed (sized (lengths e p g ++ k)) WrongLength _ d in
      let r₁₁ = done_passed (ltb count limit) LimitReached _ r₁.1 in
      let r₅ = done_passed (reduced g.coeffs) MaskRange _ r₁₁.1 in
      record {
        long = sized_lengths (and_left _ (sized k) (sym (sized_both (lengths e p g) k) ∙ r₁.0));
        usable = ltb-true count limit r₁₁.0;
        masks = r₅.0;
      }

  -- decapsulation where the lengths are exact and all coefficients are below q: what is left of its rows
  pub decaps_rows_lem : (limit count : ℕ) (k0 k1 : List ℕ) → Sized e p g → reduced g.coeffs ≡ true
      → (reduced g.key.s.s0 && reduced g.key.s.s1) ≡ true
      → decaps_answer e p g limit count k0 k1
      ≡ answer
      (length_row (lent k0 4 ∷ lent k1 4 ∷ [])
      ∷ row (not (ltb count limit)) LimitReached
      ∷ row (not (matrix_full p.k (rho_of p (ek_of p g.key)))) ShortStream
      ∷ [])
  unfolding decaps_answer answer
  decaps_rows_lem limit count k0 k1 l m s =
      let k = lent k0 4 ∷ lent k1 4 ∷ [] in
      let exact : sized (lengths e p g ++ k) ≡ sized k =
      sized_both (lengths e p g) k ∙ ap (λ (b : Bool). b && sized k) (lengths_sized l) in
      rw (exact, m, s) refl

  -- the trace where the lengths are exact and all coefficients are below q
  pub trace_rows_lem : (t : ℕ) → Sized e p g → reduced g.coeffs ≡ true
      → (reduced g.key.s.s0 && reduced g.key.s.s1) ≡ true
      → trace_answer e p g t
      ≡ cond (matrix_full p.k (rho_of p (ek_of p g.key))) (cond (ltb t (steps e p)) Done (Err NoSuchStep))
      (Err ShortStream)
  unfolding trace_answer
  trace_rows_lem t l m s = go (matrix_full p.k (rho_of p (ek_of p g.key))) refl
    where
      rs : List Row
      rs = trace_rows e p g

      n : ℕ
      n = length (sheet e p g).entries

      go : (b : Bool) → matrix_full p.k (rho_of p (ek_of p g.key)) ≡ b
          → trace.step_answer rs n t ≡ cond b (cond (ltb t (steps e p)) Done (Err NoSuchStep)) (Err ShortStream)
      go true h =
          trace_passed rs n
          (passed WrongLength _ (lengths_sized l) (range_passed p g m s (passed ShortStream _ h no_row))) t
          ∙ ap (λ (k : ℕ). cond (ltb t k) Done (Err NoSuchStep)) (sheet-steps e p g l)
      go false h =
          sym (told_step rs n t)
          ∙ told_refused rs n (t + 1)
          (passed WrongLength _ (lengths_sized l) (range_passed p g m s (refused ShortStream _ h)))
          (refusal_number-positive ShortStream)
