-- SHA3-512 is the sponge with a rate of 72 bytes and eight words of output.
use native.Mathlib.Omega.{arith}
use Rattle.masked_sponge.specs.MaskedSponge.{masked_sponge}
use Rattle.masked_fips202.specs.MaskedWords.{masked_sha3_512_words, sha3_512_mask_words}
use Rattle.masked_fips202.specs.MaskedWordsLaws.{sha3_512_fits}
use Rattle.masked_fips202.proofs.masked_words.masked_sha3_512_words.Goals as goal

pub masked_sponge-requires : goal.masked_sponge-requires
unfolding sha3_512_mask_words
masked_sponge-requires c =
    record {
      sponge = sha3_512_fits;
      inputs = c.requires.inputs;
      outputs = omega arith;
      masks = rw c.requires.long0 c.requires.masks;
    }

pub returns : goal.returns
unfolding masked_sha3_512_words sha3_512_mask_words masked_sponge
returns c cs =
    rw c.requires.long0 at (c.masked_sponge.ensures cs)
