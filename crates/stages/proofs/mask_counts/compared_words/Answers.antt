-- Stages 2 and 3 draw 789 words, and stage 8 five more than there are words.
use native.Mathlib.Omega.{arith}
use Rattle.masked_fips202.specs.MaskedWords.{sha3_512_mask_words}
use Rattle.stages.specs.Counts.{compress_poly_words, compared_words, stage8_words, decrypt_words}
use Rattle.stages.proofs.mask_counts.compared_words.Goals as goal

pub returns : goal.returns
unfolding compared_words stage8_words decrypt_words compress_poly_words sha3_512_mask_words
returns c =
    let words = c.word_count.ensures in
    let encrypted = c.encrypt_words.ensures in
    let f = c.requires in
    record {
      value = omega (arith, words.value, encrypted.value, f.dv.least);
      upper_bound = omega (arith, words.upper_bound, encrypted.upper_bound);
    }
