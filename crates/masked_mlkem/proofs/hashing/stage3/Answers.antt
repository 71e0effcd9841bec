-- SHA3-512 of m' and h: the arrays hold the two shares of its input, which has 64 bytes.
use mathlib.Core.Path.{refl}
use native.Mathlib.Omega.{arith}
use Rattle.masked_fips202.specs.MaskedWords.{masked_sha3_512_words, sha3_512_mask_words}
use Rattle.stages.specs.Worksheet.{stage3}
use Rattle.stages.proofs.HashedInput.{hash_masks, hash_ran}
use Rattle.masked_mlkem.proofs.hashing.stage3.Goals as goal

pub masked_sha3_512_words-requires : goal.masked_sha3_512_words-requires
masked_sha3_512_words-requires c =
    let g = c.requires in
    let m = hash_masks g masked_sha3_512_words sha3_512_mask_words refl c.with_public.ensures in
    record { inputs = omega arith; masks = rw m g.words; long0 = omega arith; long1 = omega arith }

pub returns : goal.returns
unfolding stage3
returns c cs =
    hash_ran c.requires masked_sha3_512_words sha3_512_mask_words refl c.with_public.ensures
    c.with_zeros.ensures (c.masked_sha3_512_words.ensures cs)
