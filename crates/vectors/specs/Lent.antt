-- What the functions on vectors ask of their slices and numbers: a vector is k parts of 256 coefficients.
use Rattle.std.specs.Prelude.{◌≡◌, List, ℕ, ◌+◌, ◌*◌, ◌^◌, ◌<◌, ◌≤◌, length}
use Rattle.words.specs.Bounded.{Below}

-- ByteEncode_d (algorithm 5) of each polynomial of v, to out
pub record EncodeAllInput (v : List ℕ) (d k : ℕ) (out : List ℕ) : Type 0 where
  pub vector : length v ≡ 256 * k
  pub some : 0 < d
  pub most : d ≤ 12
  pub below : Below (2 ^ d) v
  pub bytes : length out ≡ 32 * d * k

-- the products (2.4.7) of a's parts start, start + step, .. with the k parts of b, added up in out
pub record DotInput (a : List ℕ) (start step : ℕ) (b : List ℕ) (k : ℕ) (out : List ℕ) : Type 0 where
  pub left : (j : ℕ) → j < k → 256 * (start + step * j) + 256 ≤ length a
  pub right : length b ≡ 256 * k
  pub polynomial : length out ≡ 256
