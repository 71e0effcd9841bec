-- The two slices are the shares of the coins' bytes and n, as the definition puts them together, and are hashed.
use mathlib.Core.List.{List}
use mathlib.Core.Path.{refl, sym}
use Prim.Native.Nat.{ℕ}
use native.Mathlib.Omega.{arith}
use lib.ListN.{length}
use Rattle.worksheet.specs.Prog.{Prog}
use Rattle.worksheet.specs.SharedList.{SharedList}
use Rattle.masked_fips202.specs.MaskedWords.{masked_shake256_words, shake256_mask_words}
use Rattle.stages.proofs.HashedInput.{hash_masks, hash_ran}
use Rattle.masked_noise.proofs.noise_bits.Goals as goal

-- the hash of any input to n words, and its masks
abbrev words : ℕ → List ℕ → List ℕ → Prog SharedList
words n b0 b1 = masked_shake256_words b0 b1 n

abbrev masks : ℕ → ℕ → ℕ
masks n k = shake256_mask_words k n

pub masked_shake256_words-requires : goal.masked_shake256_words-requires
masked_shake256_words-requires c =
    let g = c.requires in
    let m = hash_masks g (words (length c.args.o0.now)) (masks (length c.args.o0.now)) refl c.with_public.ensures in
    record { inputs = omega arith; outputs = sym g.out.long1; masks = rw m g.words }

pub returns : goal.returns
returns c cs =
    let n = length c.args.o0.now in
    hash_ran c.requires (words n) (masks n) refl c.with_public.ensures c.with_zeros.ensures
    (c.masked_shake256_words.ensures cs)
