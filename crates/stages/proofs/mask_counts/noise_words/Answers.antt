-- 33 bytes are one block, and further blocks of 17 words are drawn for.
use native.Mathlib.Omega.{arith}
use Rattle.masked_fips202.specs.MaskedWords.{shake256_mask_words}
use Rattle.stages.specs.Counts.{noise_words}
use Rattle.stages.proofs.mask_counts.noise_words.Goals as goal

pub returns : goal.returns
unfolding noise_words shake256_mask_words
returns c = record { value = omega arith; upper_bound = omega (arith, c.requires.most) }
