-- Stages 3, 4 and 5 of the worksheet: nothing is asked of what comes in, and either share of what goes out can be kept.
use Rattle.std.specs.Prelude.{ℕ, ◌+◌, ◌*◌, ◌<◌, ◌≡◌, refl, Bool, true, List, [], ◌∷◌, ◌++◌, length}
use Rattle.std.proofs.Common.{arith}
use Rattle.words.specs.Bounded.{Below}
use Rattle.words.specs.BoundedLaws.{below_nil, below_cons}
use Rattle.worksheet.specs.Flatten.{turns_append}
use Rattle.worksheet.specs.Prog.{times}
use Rattle.worksheet.specs.Turns.{Turns}
use Rattle.worksheet.specs.Stage.{Stage, and_then, comap, times-stage}
use Rattle.worksheet.specs.SharedList.{SharedList}
use Rattle.worksheet.specs.Choice.{KeptShared, SameShare}
use Rattle.masked_sampler.specs.PolynomialSilence.{Anything, bits_to_coeffs-stage, samples-stage}
use Rattle.parameters.specs.declared.Parameters.{Parameters}
use Rattle.stages.specs.EntryCounts.{noise_entries, stage3_entries, stage4_entries, stage5_entries}
use Rattle.parameters.specs.Fits.{Fits}
use Rattle.stages.specs.Moves.{string_bit}
use Rattle.stages.specs.Worksheet.{noise_poly, stage3, stage4, stage5}
use Rattle.silence.specs.HashSilence.{sha3_512_stage, shake256_stage}
use Rattle.silence.specs.Pair.{pair_stage}

-- shares c of n polynomials are equal
abbrev pub SamePolys : ℕ → Bool → List SharedList → List SharedList → Type 0
SamePolys n c = Turns (λ j. SameShare c) n

-- ---- stages 3 and 4

pub stage3-stage : (h : List ℕ) → length h ≡ 32 → Below 256 h
    → Stage Anything (KeptShared 8) stage3_entries (λ m. stage3 m h) (λ m. stage3 m h)
unfolding stage3
stage3-stage h long bytes = sha3_512_stage 32 h long bytes

pub stage4-stage : Stage Anything SameShare stage4_entries stage4 stage4
unfolding stage4
stage4-stage = comap Anything string_bit string_bit (λ e. e) (λ e a b r. tt) (bits_to_coeffs-stage 256 1665)

-- ---- stage 5

noise_poly-stage : (eta n : ℕ) → 0 < eta → n < 256
    → Stage Anything SameShare (noise_entries eta) (λ w. noise_poly eta w n) (λ w. noise_poly eta w n)
unfolding noise_poly noise_entries
noise_poly-stage eta n pos h =
    and_then (shake256_stage 1 (n ∷ []) refl (below_cons h (below_nil (omega arith))) (8 * eta))
    (comap (KeptShared (8 * eta)) (λ o i j. string_bit o (2 * eta * i + j)) (λ o i j. string_bit o (2 * eta * i + j))
    (λ e j. true)
    (λ e a b r. tt) (samples-stage 256 eta pos))

-- n polynomials; polynomial j is made with the number at j
noise_polys_stage : (eta n : ℕ) (at : ℕ → ℕ) → 0 < eta → ((j : ℕ) → j < n → at j < 256)
    → Stage Anything (SamePolys n) (n * noise_entries eta) (λ w. times n (λ j. noise_poly eta w (at j)))
    (λ w. times n (λ j. noise_poly eta w (at j)))
noise_polys_stage eta n at pos lt =
    times-stage (λ c j. SameShare c) n (λ j h. noise_poly-stage eta (at j) pos (lt j h))
    (λ c. (tt, λ a b r j h. ((noise_poly-stage eta (at j) pos (lt j h)).fresh c).1 a b tt))

module _ (p : Parameters) (f : Fits p) where
  y_stage : Stage Anything (SamePolys p.k) (p.k * noise_entries p.eta1)
      (λ w. times p.k (λ j. noise_poly p.eta1 w j))
      (λ w. times p.k (λ j. noise_poly p.eta1 w j))
  y_stage = noise_polys_stage p.eta1 p.k (λ n. n) f.eta1.least (λ j h. omega (arith, f.rank.most))

  e_stage : Stage Anything (SamePolys (p.k + 1)) ((p.k + 1) * noise_entries p.eta2)
      (λ w. times (p.k + 1) (λ j. noise_poly p.eta2 w (p.k + j)))
      (λ w. times (p.k + 1) (λ j. noise_poly p.eta2 w (p.k + j)))
  e_stage = noise_polys_stage p.eta2 (p.k + 1) (λ n. p.k + n) f.eta2.least (λ j h. omega (arith, f.rank.most))

  pub stage5-stage : Stage Anything (SamePolys (p.k + (p.k + 1))) (stage5_entries p) (stage5 p) (stage5 p)
  unfolding stage5 stage5_entries
  stage5-stage =
      pair_stage (λ y e. y ++ e) (λ y e. y ++ e) {S₁ = SamePolys p.k} {Q₁ = SamePolys (p.k + 1)} y_stage e_stage
      (λ c y y' e e' r s. turns_append r s)
      (λ c. (tt, λ a b r. ((y_stage.fresh c).1 a b tt, (e_stage.fresh c).1 a b tt)))
