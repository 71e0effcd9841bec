-- SHAKE256 of the words and the string: b0 and b1 hold the two shares of its input.
use mathlib.Core.Path.{refl}
use mathlib.Core.List.{List}
use Prim.Native.Nat.{ℕ}
use native.Mathlib.Omega.{arith}
use Rattle.worksheet.specs.Prog.{Prog}
use Rattle.worksheet.specs.SharedList.{SharedList}
use Rattle.masked_fips202.specs.MaskedWords.{masked_shake256_words, shake256_mask_words}
use Rattle.stages.specs.Worksheet.{masked_j}
use Rattle.stages.proofs.HashedInput.{hash_masks, hash_ran}
use Rattle.masked_mlkem.proofs.hashing.masked_j_in.Goals as goal

-- the hash
abbrev words4 : List ℕ → List ℕ → Prog SharedList
words4 b0 b1 = masked_shake256_words b0 b1 4

pub masked_shake256_words-requires : goal.masked_shake256_words-requires
masked_shake256_words-requires c =
    let g = c.requires.input.hash in
    let m = hash_masks g words4 (λ k. shake256_mask_words k 4) refl c.with_public.ensures in
    record {
      inputs = omega arith;
      outputs = omega arith;
      masks = rw (g.out.long0, m) g.words;
    }

pub returns : goal.returns
unfolding masked_j
returns c cs =
    let g = c.requires.input.hash in
    hash_ran g words4 (λ k. shake256_mask_words k 4) refl c.with_public.ensures
    c.with_zeros.ensures (rw g.out.long0 at (c.masked_shake256_words.ensures cs))
