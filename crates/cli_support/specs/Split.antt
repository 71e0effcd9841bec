-- A split key of rank k as a string of bytes.
use Rattle.std.specs.Prelude.{◌≡◌, List, ◌++◌, ℕ, ◌+◌, ◌*◌, length, take, drop}
use Rattle.words.specs.LittleEndian.{words_to_bytes}
use Rattle.buffers.specs.LittleEndian.{numbers}
use Rattle.split_key.specs.SplitKey.{SplitKey}

-- the parts of a split key have their lengths: the shares of the secret's coefficients, those of z's words, the public
-- key and h
pub record Sized (k : ℕ) (key : SplitKey) : Type 0 where
  pub s0_long : length key.s.s0 ≡ 256 * k
  pub s1_long : length key.s.s1 ≡ 256 * k
  pub z0_long : length key.z.s0 ≡ 4
  pub z1_long : length key.z.s1 ≡ 4
  pub public_long : length key.public ≡ 384 * k + 64

-- so do those behind the secret's, and the bytes that they go to
pub record RestSized (key : SplitKey) (out : List ℕ) : Type 0 where
  pub z0_long : length key.z.s0 ≡ 4
  pub z1_long : length key.z.s1 ≡ 4
  pub bytes : length out ≡ 64 + length key.public

-- how many bytes it has
abbrev pub split_length : ℕ → ℕ
split_length k = 1408 * k + 128

-- the words' bytes, the public key and h
abbrev pub rest_bytes : SplitKey → List ℕ
rest_bytes key = (words_to_bytes 8 key.z.s0 ++ words_to_bytes 8 key.z.s1) ++ key.public

-- the shares' bytes, then these
unfoldable pub split_bytes : SplitKey → List ℕ
split_bytes key = (words_to_bytes 2 key.s.s0 ++ words_to_bytes 2 key.s.s1) ++ rest_bytes key

-- what the bytes b are read into
pub record Unpacked (k : ℕ) (b : List ℕ) (key : SplitKey) : Type 0 where
  pub secret0 : key.s.s0 ≡ numbers 2 (256 * k) (take (512 * k) b)
  pub secret1 : key.s.s1 ≡ numbers 2 (256 * k) (take (512 * k) (drop (512 * k) b))
  pub reject0 : key.z.s0 ≡ numbers 8 4 (take 32 (drop (1024 * k) b))
  pub reject1 : key.z.s1 ≡ numbers 8 4 (take 32 (drop (1024 * k + 32) b))
  pub public : key.public ≡ drop (1024 * k + 64) b
