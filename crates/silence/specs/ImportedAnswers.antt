-- What trace and decapsulation answer on an imported key, whatever choice is made: import's split and the strip have
-- their lengths and ranges, so that no row but those of the step, of the limit and of the matrix streams is left.
use Rattle.std.specs.Prelude.{◌≡◌, Bool, true, not, cond, ◌&&◌, ℕ, ◌*◌, ltb, length, Err}
use Rattle.std.proofs.Math.Path.{ap, ap₂}
use Rattle.std.proofs.Common.{◌∙◌, take_at}
use mathlib.Core.List.{List, [], ◌∷◌}
use Rattle.refusals.specs.declared.Refusal.TheVariants.{ShortStream, NoSuchStep, LimitReached}
use Rattle.refusals.specs.Refusals.{Done, row, answer, lent}
use Rattle.refusals.specs.Reduced.{reduced}
use Rattle.refusals.specs.ReducedLaws.{below-reduced}
use Rattle.parameters.specs.declared.Edition.{Edition}
use Rattle.parameters.specs.declared.Parameters.{Parameters}
use Rattle.parameters.specs.Lengths.{ek_bytes}
use Rattle.kpke.specs.KPke.{matrix_full}
use Rattle.ring.specs.Sum.{below_sub}
use Rattle.vectors.specs.Vector.{coefficients}
use Rattle.mlkem.specs.MlKem.{secret_part, public_part, hash_part}
use Rattle.mlkem.specs.Calls.{rho_of}
use Rattle.split_key.specs.SplitKey.{ek_of, second_coeffs, split}
use Rattle.split_key.specs.SplitLengths.{length-public_part, split_sized}
use Rattle.stages.specs.Counts.{strip_words, strip_coeffs}
use Rattle.stages.specs.EntryCounts.{steps}
use Rattle.decapsulation_run.specs.Input.{Input, sheet}
use Rattle.decapsulation_run.specs.InputLaws.{sheet-steps}
use Rattle.decapsulation_run.specs.Sized.{Sized}
use Rattle.decapsulation.specs.Calls.{length_row, imported, decaps_answer, trace_answer}
use Rattle.decapsulation.specs.AnswerLaws.{decaps_rows_lem, trace_rows_lem}
use Rattle.silence.specs.Claim.{Key, Ciphertext}
use Rattle.silence.specs.ChoicesInRange.{Choice}

-- ---- a key

-- whether no matrix stream of the key runs dry
abbrev pub full : Parameters → List ℕ → Bool
full p dk = matrix_full p.k (rho_of p (public_part p dk))

module _ {p : Parameters} {dk : List ℕ} (key : Key p dk) where
  pub second_reduced : (a : List ℕ) → reduced (second_coeffs p dk a) ≡ true
  unfolding second_coeffs
  second_reduced a = below-reduced _ (below_sub (coefficients p.k (secret_part p dk)) a)

  full-split : (a w : List ℕ) → matrix_full p.k (rho_of p (ek_of p (split p dk a w))) ≡ full p dk
  unfolding split
  full-split a w =
      ap (λ (l : List ℕ). matrix_full p.k (rho_of p l))
      (take_at (public_part p dk) (hash_part p dk) (ek_bytes p) (length-public_part key.accepts))

-- ---- a choice

module _ (e : Edition) {p : Parameters} {dk c : List ℕ} (key : Key p dk) (ct : Ciphertext p c) (a w ws cs : List ℕ)
    (h : Choice (256 * p.k) (strip_words e p) (strip_coeffs p) a w ws cs) where
  abbrev g : Input
  g = imported p dk a w c ws cs

  all_long : Sized e p g
  all_long =
      record {
        key = split_sized key.accepts a w h.firsts_long h.z_long;
        ct = ct.long;
        words = h.words_long;
        coeffs = h.coeffs_long;
      }

  pub imported_steps : length (sheet e p g).entries ≡ steps e p
  imported_steps = sheet-steps e p g all_long

  shares_reduced : (reduced g.key.s.s0 && reduced g.key.s.s1) ≡ true
  unfolding split
  shares_reduced = ap₂ (λ (x y : Bool). x && y) (below-reduced a h.firsts_below) (second_reduced key a)

  pub imported_trace : (t : ℕ)
      → trace_answer e p g t ≡ cond (full p dk) (cond (ltb t (steps e p)) Done (Err NoSuchStep)) (Err ShortStream)
  imported_trace t =
      trace_rows_lem e p g t all_long (below-reduced cs h.coeffs_below) shares_reduced
      ∙ ap (λ (b : Bool). cond b (cond (ltb t (steps e p)) Done (Err NoSuchStep)) (Err ShortStream))
      (full-split key a w)

  pub imported_decaps_answer : (limit count : ℕ) (k0 k1 : List ℕ)
      → decaps_answer e p g limit count k0 k1
      ≡ answer
      (length_row (lent k0 4 ∷ lent k1 4 ∷ [])
      ∷ row (not (ltb count limit)) LimitReached
      ∷ row (not (full p dk)) ShortStream
      ∷ [])
  imported_decaps_answer limit count k0 k1 =
      decaps_rows_lem e p g limit count k0 k1 all_long (below-reduced cs h.coeffs_below) shares_reduced
      ∙ ap (λ (b : Bool).
      answer
      (length_row (lent k0 4 ∷ lent k1 4 ∷ [])
      ∷ row (not (ltb count limit)) LimitReached
      ∷ row (not b) ShortStream
      ∷ []))
      (full-split key a w)
