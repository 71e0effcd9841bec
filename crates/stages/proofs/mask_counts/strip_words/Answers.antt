-- The definition is the same sum of the same counts.
use borrow.Author.Rules.{rules}
use Rattle.stages.specs.Counts.{strip_words}
use Rattle.stages.proofs.mask_counts.strip_words.Goals as goal

pub returns : goal.returns
unfolding strip_words
returns c = record { value = search rules; upper_bound = search rules }
