-- SHAKE256 is the sponge with a rate of 136 bytes.
use Rattle.masked_sponge.specs.MaskedSponge.{masked_sponge}
use Rattle.masked_fips202.specs.MaskedWords.{masked_shake256_words, shake256_mask_words}
use borrow.Author.Rules.{rules}
use Rattle.masked_fips202.proofs.masked_words.masked_shake256_words.Goals as goal

pub masked_sponge-requires : goal.masked_sponge-requires
unfolding shake256_mask_words
masked_sponge-requires c = search rules

pub returns : goal.returns
unfolding masked_shake256_words shake256_mask_words masked_sponge
returns c cs = c.masked_sponge.ensures cs
