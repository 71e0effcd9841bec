-- The definition is the same sum of the same counts.
use Rattle.stages.specs.EntryCounts.{stage7_entries}
use Rattle.stages.proofs.entry_counts.stage7_entries.Goals as goal

pub returns : goal.returns
unfolding stage7_entries
returns c = record {
  value = rw (c.compress_poly_entries.ensures.value, c.compress_poly_entries-2.ensures.value) at
      c.ciphertext_sum.ensures.value;
  upper_bound = c.ciphertext_sum.ensures.upper_bound;
}
