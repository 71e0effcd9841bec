-- The definition is the same sum of the same counts.
use Rattle.stages.specs.Counts.{stage5_coeffs}
use Rattle.stages.proofs.mask_counts.stage5_coeffs.Goals as goal

pub returns : goal.returns
unfolding stage5_coeffs
returns c =
    record {
      value = rw (c.noise_coeffs.ensures.value, c.noise_coeffs-2.ensures.value) at c.noise_sum.ensures.value;
      upper_bound = c.noise_sum.ensures.upper_bound;
    }
