-- What the hashes on shares ask of a rate, a suffix and the buffers lent to them.
use Rattle.std.specs.Prelude.{◌≡◌, List, ℕ, ◌+◌, ◌≤◌, length}
use Rattle.fips202.specs.Lent.{SpongeFits}
use Rattle.masked_sponge.specs.MaskedSponge.{input_blocks, further_blocks, hash_mask_words}
use Rattle.masked_fips202.specs.MaskedWords.{sha3_512_mask_words, shake256_mask_words}

-- input, output in blocks of so many elements, and the masks of the sponge
pub record SpongeLent {A : Type 0} (rate suffix per : ℕ) (in0 in1 ws : List ℕ) (out0 out1 : List A) : Type 0 where
  pub sponge : SpongeFits rate suffix
  pub inputs : length in0 ≡ length in1
  pub outputs : length out0 ≡ length out1
  pub masks : hash_mask_words (input_blocks rate (length in0) + further_blocks per (length out0)) ≤ length ws

-- ---- output in words

pub record Sha3-512Lent (in0 in1 ws o0 o1 : List ℕ) : Type 0 where
  pub inputs : length in0 ≡ length in1
  pub masks : sha3_512_mask_words (length in0) ≤ length ws
  pub long0 : length o0 ≡ 8
  pub long1 : length o1 ≡ 8

pub record Shake256Lent (in0 in1 ws o0 o1 : List ℕ) : Type 0 where
  pub inputs : length in0 ≡ length in1
  pub outputs : length o0 ≡ length o1
  pub masks : shake256_mask_words (length in0) (length o0) ≤ length ws
