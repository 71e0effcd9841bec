-- What folding and selection ask of the bit and the buffers lent to them.
use Rattle.std.specs.Prelude.{◌≡◌, List, ℕ, ◌<◌, ◌≤◌, length}
use Rattle.worksheet.specs.Shares.{Shares}
use Rattle.worksheet.specs.BitShares.{BitShares}
use Rattle.worksheet.specs.SharedList.{SharedList}

-- n + 1 words in two shares, and so many mask words
pub record FoldLent (n drawn : ℕ) (w0 w1 ws : List ℕ) : Type 0 where
  pub share0 : n < length w0
  pub share1 : n < length w1
  pub masks : drawn ≤ length ws

-- n words of x and of y, a bit, n mask words, and where the selected words go
pub record SelectLent (n : ℕ) (b : Shares) (x y : SharedList) (ws : List ℕ) (out : SharedList) : Type 0 where
  pub bit : BitShares b
  pub x0 : n ≤ length x.s0
  pub x1 : n ≤ length x.s1
  pub y0 : n ≤ length y.s0
  pub y1 : n ≤ length y.s1
  pub masks : n ≤ length ws
  pub out0 : length out.s0 ≡ n
  pub out1 : length out.s1 ≡ n
