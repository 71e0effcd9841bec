-- A coefficient takes 2 eta masks, and there are 256.
use native.Mathlib.Omega.{arith}
use Rattle.stages.specs.Counts.{noise_coeffs}
use Rattle.stages.proofs.mask_counts.noise_coeffs.Goals as goal

pub returns : goal.returns
unfolding noise_coeffs
returns c = record { value = omega arith; upper_bound = omega (arith, c.requires.most) }
