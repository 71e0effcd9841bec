-- What the functions of FIPS 203's section 4.2.1 ask of their numbers and slices.
use Rattle.std.specs.Prelude.{◌≡◌, List, ℕ, ◌*◌, ◌^◌, ◌<◌, ◌≤◌, length}
use Rattle.words.specs.Bounded.{Below}

-- x goes above the n bits of acc
pub record AboveInput (acc x n : ℕ) : Type 0 where
  pub places : n < 16
  pub lower : acc < 2 ^ n
  pub upper : x < 2 ^ 12

-- Algorithm 5, ByteEncode_d, from f to out
pub record EncodeInput (f : List ℕ) (d : ℕ) (out : List ℕ) : Type 0 where
  pub polynomial : length f ≡ 256
  pub bytes : length out ≡ 32 * d
  pub some : 0 < d
  pub most : d ≤ 12
  pub below : Below (2 ^ d) f

-- Algorithm 6, ByteDecode_d, from b to f
pub record DecodeInput (b : List ℕ) (d : ℕ) (f : List ℕ) : Type 0 where
  pub bytes : length b ≡ 32 * d
  pub polynomial : length f ≡ 256
  pub some : 0 < d
  pub most : d ≤ 12

-- Decompress_d, (4.8), of y
pub record DecompressInput (y d : ℕ) : Type 0 where
  pub most : d ≤ 11
  pub below : y < 2 ^ d
