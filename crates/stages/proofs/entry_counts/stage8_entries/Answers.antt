-- A word is added to with one entry and folded with eleven.
use borrow.Author.Rules.{rules}
use Rattle.masked_comparison.specs.EntryCounts.{all_zero_entries}
use Rattle.stages.specs.EntryCounts.{stage8_entries}
use Rattle.stages.proofs.entry_counts.stage8_entries.Goals as goal

pub returns : goal.returns
unfolding stage8_entries all_zero_entries
returns c = record { value = search rules; upper_bound = search rules }
