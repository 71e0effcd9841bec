-- What is lent to a stage, and what stage 8 leaves.
use Rattle.std.specs.Prelude.{◌≡◌, List, ℕ, ◌+◌, ◌*◌, ◌<◌, ◌≤◌, length}
use Rattle.worksheet.specs.Shares.{Shares}
use Rattle.worksheet.specs.SharedList.{SharedList}
use Rattle.parameters.specs.declared.Parameters.{Parameters}
use Rattle.parameters.specs.Lengths.{ct_bytes}
use Rattle.parameters.specs.Fits.{Fits}
use Rattle.masked_fips202.specs.MaskedWords.{shake256_mask_words}
use Rattle.stages.specs.Worksheet.{word_count}
use Rattle.stages.specs.Counts.{stage8_words}
use Rattle.stages.specs.Lent.{Long, HashInput}

-- 256 numbers, and where the words of their d planes go
pub record PlanesInput (d : ℕ) (f w : List ℕ) : Type 0 where
  pub input : length f ≡ 256
  pub out : length w ≡ d * 4
  pub depth : d ≤ 11

-- the ciphertext, and where the words of its planes go
pub record PublicInput (p : Parameters) (c w : List ℕ) : Type 0 where
  pub fits : Fits p
  pub ct : length c ≡ ct_bytes p
  pub out : length w ≡ word_count p

-- stage 8: the ciphertext, stage 7's planes z, and the mask words
pub record EqualInput (p : Parameters) (c : List ℕ) (z : SharedList) (ws : List ℕ) : Type 0 where
  pub fits : Fits p
  pub ct : length c ≡ ct_bytes p
  pub planes : Long (word_count p) z
  pub words : stage8_words p ≤ length ws

-- with w, where the ciphertext's own planes go
pub record EqualWork (p : Parameters) (c : List ℕ) (z : SharedList) (ws w : List ℕ) : Type 0 where
  pub input : EqualInput p c z ws
  pub public : length w ≡ word_count p

-- J: four words, a public string of 1,568 bytes at most, the mask words, and where its four words go
pub record JInput (w : SharedList) (string ws : List ℕ) (o : SharedList) : Type 0 where
  pub hash : HashInput (length string) (shake256_mask_words (32 + length string) 4) 4 w string ws o
  pub most : length string ≤ 1568

-- with b, where the shares of the hash's input go
pub record JWork (w : SharedList) (string ws : List ℕ) (b o : SharedList) : Type 0 where
  pub input : JInput w string ws o
  pub bytes : Long (32 + length string) b

-- ---- what is left by a stage that gives a bit b: it ran as R says, and both shares are bits
pub record GivesBit (R : Type 0) (b : Shares) : Type 0 where
  pub ran : R
  pub bit0 : b.s0 < 2
  pub bit1 : b.s1 < 2
