-- The definition is the same sum of the same counts.
use Rattle.stages.specs.Counts.{stage5_words}
use Rattle.stages.proofs.mask_counts.stage5_words.Goals as goal

pub returns : goal.returns
unfolding stage5_words
returns c =
    record {
      value = rw (c.noise_words.ensures.value, c.noise_words-2.ensures.value) at c.noise_sum.ensures.value;
      upper_bound = c.noise_sum.ensures.upper_bound;
    }
