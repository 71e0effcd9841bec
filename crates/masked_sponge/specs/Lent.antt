-- What the sponge's functions ask of a rate, a suffix and the buffers lent to them.
use Rattle.std.specs.Prelude.{◌≡◌, List, ℕ, ◌-◌, ◌*◌, ◌/◌, ◌%◌, ◌<◌, ◌≤◌, length}
use Rattle.fips202.specs.Lent.{SpongeFits}
use Rattle.masked_keccak.specs.MaskedKeccak.{keccak_p_words}
use Rattle.masked_sponge.specs.MaskedSponge.{input_blocks, further_blocks, hash_mask_words}

-- a block in two shares, p and q
pub record BlockLent (rate : ℕ) (p q : List ℕ) : Type 0 where
  pub fits : rate ≤ 200
  pub whole : rate % 8 ≡ 0
  pub block0 : rate ≤ length p
  pub block1 : rate ≤ length q

-- an input in two shares, and the masks for the blocks that it fills
pub record InputLent (rate : ℕ) (in0 in1 ws : List ℕ) : Type 0 where
  pub long : length in0 ≡ length in1
  pub positive : 0 < rate
  pub fits : rate ≤ 200
  pub whole : rate % 8 ≡ 0
  pub masks : keccak_p_words * (length in0 / rate) ≤ length ws

-- an input in two shares, and the masks for taking it in
pub record AbsorbLent (rate suffix : ℕ) (in0 in1 ws : List ℕ) : Type 0 where
  pub sponge : SpongeFits rate suffix
  pub inputs : length in0 ≡ length in1
  pub masks : hash_mask_words (input_blocks rate (length in0)) ≤ length ws

-- a block of rate bytes, whole lanes
pub record WholeLanes (rate : ℕ) : Type 0 where
  pub positive : 0 < rate
  pub fits : rate ≤ 200
  pub whole : rate % 8 ≡ 0

-- a block of so many elements of output, whole lanes of in_lane elements each, of which a state has at most so many
pub record BlockFits (most in_lane per : ℕ) : Type 0 where
  pub positive : 0 < per
  pub fits : per ≤ most
  pub whole : per % in_lane ≡ 0

-- an output in two shares, in such blocks, and the masks for the further ones
pub record OutputLent {A : Type 0} (most in_lane per : ℕ) (ws : List ℕ) (out0 out1 : List A) : Type 0 where
  pub long : length out0 ≡ length out1
  pub block : BlockFits most in_lane per
  pub masks : keccak_p_words * further_blocks per (length out0) ≤ length ws

-- the part of one share's output from a to e
pub record PartLent {A : Type 0} (most a e : ℕ) (out : List A) : Type 0 where
  pub order : a ≤ e
  pub within : e ≤ length out
  pub short : e - a ≤ most
