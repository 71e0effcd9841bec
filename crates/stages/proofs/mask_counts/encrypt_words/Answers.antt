-- The definition is the same sum of the same counts.
use borrow.Author.Rules.{rules}
use Rattle.stages.specs.Counts.{encrypt_words}
use Rattle.stages.proofs.mask_counts.encrypt_words.Goals as goal

pub returns : goal.returns
unfolding encrypt_words
returns c = record { value = search rules; upper_bound = search rules }
