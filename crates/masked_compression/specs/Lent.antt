-- What the functions ask of a depth and the buffers lent to them.
use Rattle.std.specs.Prelude.{◌≡◌, List, ℕ, ◌≤◌, length}
use Rattle.words.specs.Bounded.{Below}
use Rattle.words.specs.Residue.{q}
use Rattle.masked_compression.specs.Compression.{compress_words}

-- a depth, and what is added to the fixed point
pub record PointFits (d h : ℕ) : Type 0 where
  pub depth : d ≤ 11
  pub half : h ≤ 4096

-- one share of 64 coefficients
pub record GroupShare (x : List ℕ) : Type 0 where
  pub long : length x ≡ 64
  pub below : Below q x

pub record PointsLent (d h : ℕ) (x : List ℕ) : Type 0 where
  pub point : PointFits d h
  pub group : GroupShare x

pub record CompressLent (d : ℕ) (x0 x1 ws : List ℕ) : Type 0 where
  pub depth : d ≤ 11
  pub share0 : GroupShare x0
  pub share1 : GroupShare x1
  pub masks : compress_words d ≤ length ws
