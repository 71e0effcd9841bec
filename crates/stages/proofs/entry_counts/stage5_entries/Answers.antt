-- The definition is the same sum of the same counts.
use Rattle.stages.specs.EntryCounts.{stage5_entries}
use Rattle.stages.proofs.entry_counts.stage5_entries.Goals as goal

pub returns : goal.returns
unfolding stage5_entries
returns c =
    record {
      value = rw (c.noise_entries.ensures.value, c.noise_entries-2.ensures.value) at c.noise_sum.ensures.value;
      upper_bound = c.noise_sum.ensures.upper_bound;
    }
