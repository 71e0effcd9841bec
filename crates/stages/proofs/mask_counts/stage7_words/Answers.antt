-- The definition is the same sum of the same counts.
use Rattle.stages.specs.Counts.{stage7_words}
use Rattle.stages.proofs.mask_counts.stage7_words.Goals as goal

pub returns : goal.returns
unfolding stage7_words
returns c = record {
  value = rw (c.compress_poly_words.ensures.value, c.compress_poly_words-2.ensures.value) at
      c.ciphertext_sum.ensures.value;
  upper_bound = c.ciphertext_sum.ensures.upper_bound;
}
