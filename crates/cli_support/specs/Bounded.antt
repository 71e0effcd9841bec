-- A parameter set's lengths and an edition's counts lie between the smallest and the largest of the three sets and of
-- both editions.
use Rattle.std.specs.Prelude.{ℕ}
use Rattle.parameters.specs.declared.Edition.{Edition}
use Rattle.parameters.specs.declared.Parameters.{Parameters}
use Rattle.parameters.specs.Lengths.{ek_bytes, dk_bytes, ct_bytes}
use Rattle.parameters.specs.Fits.{Within}
use Rattle.stages.specs.Counts.{strip_words, strip_coeffs}
use Rattle.stages.specs.EntryCounts.{steps}

pub record Between (k ek₀ dk₀ ct₀ words₀ coeffs₀ steps₀ : ℕ) : Type 0 where
  pub rank : Within 2 4 k
  pub ek : Within 800 1568 ek₀
  pub dk : Within 1632 3168 dk₀
  pub ct : Within 768 1568 ct₀
  pub words : Within 6588 15192 words₀
  pub coeffs : Within 6400 9472 coeffs₀
  pub steps : Within 116638 242052 steps₀

-- the bounds of the set, whose sizes these are in an edition
abbrev pub SetBounded : Edition → Parameters → Type 0
SetBounded e p = Between p.k (ek_bytes p) (dk_bytes p) (ct_bytes p) (strip_words e p) (strip_coeffs p) (steps e p)
