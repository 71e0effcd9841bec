-- Stage 1's residues are what stage 2 compresses; the two runs follow each other.
use native.Mathlib.Omega.{arith}
use Rattle.worksheet.specs.Ran.{bind}
use Rattle.stages.specs.Counts.{decrypt_words}
use Rattle.stages.specs.Worksheet.{masked_decrypt}
use Rattle.masked_decryption.proofs.masked_decrypt.Goals as goal

pub stage2-requires : goal.stage2-requires
unfolding decrypt_words
stage2-requires c =
    let p = c.requires in
    record { depth = omega arith; input = c.stage1-rec.ensures.range; words = p.words; out = p.out }

pub returns : goal.returns
unfolding masked_decrypt decrypt_words
returns c cs =
    bind _ (c.stage1-rec.ensures.ran _ cs) (c.stage2.ensures cs)
