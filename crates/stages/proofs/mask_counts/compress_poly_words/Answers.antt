-- The adder on d + 13 planes draws 3 (d + 13) - 1 words, and there are four groups.
use native.Mathlib.Omega.{arith}
use Rattle.stages.specs.Counts.{compress_poly_words}
use Rattle.stages.proofs.mask_counts.compress_poly_words.Goals as goal

pub returns : goal.returns
unfolding compress_poly_words
returns c = record { value = omega arith; upper_bound = omega (arith, c.requires.most) }
