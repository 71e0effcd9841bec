-- What the passes on one share ask of the slices that are lent.
use Rattle.std.specs.Prelude.{◌≡◌, List, ℕ, ◌+◌, ◌*◌, ◌≤◌, length}

-- rows i to i + m - 1 of u, for the matrix a, the transformed y and the same rows of e1
pub record RowsInput (k i m : ℕ) (a y e1 u : List ℕ) : Type 0 where
  pub rows : i + m ≤ k
  pub matrix : length a ≡ 256 * k * k
  pub vector : length y ≡ 256 * k
  pub errors : length e1 ≡ 256 * m
  pub out : length u ≡ 256 * m

-- v, for the public vector t, the transformed y, e2 and mu
pub record LastInput (k : ℕ) (t y e2 mu v : List ℕ) : Type 0 where
  pub public : length t ≡ 256 * k
  pub vector : length y ≡ 256 * k
  pub error : length e2 ≡ 256
  pub message : length mu ≡ 256
  pub out : length v ≡ 256

-- u and v, for all of these
pub record PassesInput (k : ℕ) (a t y e1 e2 mu uv : List ℕ) : Type 0 where
  pub matrix : length a ≡ 256 * k * k
  pub public : length t ≡ 256 * k
  pub vector : length y ≡ 256 * k
  pub errors : length e1 ≡ 256 * k
  pub error : length e2 ≡ 256
  pub message : length mu ≡ 256
  pub out : length uv ≡ 256 * (k + 1)

-- u and v, where n holds y, e1 and e2
pub record ShareInput (k : ℕ) (a t n mu : List ℕ) : Type 0 where
  pub matrix : length a ≡ 256 * k * k
  pub public : length t ≡ 256 * k
  pub noise : length n ≡ 256 * (2 * k + 1)
  pub message : length mu ≡ 256

-- and where they go
pub record PassInput (k : ℕ) (a t n mu uv : List ℕ) : Type 0 where
  pub share : ShareInput k a t n mu
  pub out : length uv ≡ 256 * (k + 1)
