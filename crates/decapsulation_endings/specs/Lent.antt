-- What an ending asks of what is lent to it.
use Rattle.std.specs.Prelude.{◌≡◌, List, ℕ, ◌≤◌, length}
use Rattle.worksheet.specs.SharedList.{SharedList}
use Rattle.worksheet.specs.Shares.{Shares}
use Rattle.worksheet.specs.BitShares.{BitShares}
use Rattle.parameters.specs.declared.Edition.{Edition}
use Rattle.parameters.specs.declared.Parameters.{Parameters}
use Rattle.parameters.specs.Fits.{Fits}
use Rattle.parameters.specs.Lengths.{ct_bytes}
use Rattle.stages.specs.Counts.{ending_words}
use Rattle.stages.specs.Lent.{Long}

-- the equal bit, stage 3's words g, z, the ciphertext, the mask words, and where the shares of K go
pub record EndingInput (e : Edition) (p : Parameters) (equal : Shares) (g z₀ : SharedList) (c ws : List ℕ)
    (k : SharedList) : Type 0 where
  pub fits : Fits p
  pub bit : BitShares equal
  pub hashed : Long 8 g
  pub z : Long 4 z₀
  pub ct : length c ≡ ct_bytes p
  pub words : ending_words e p ≤ length ws
  pub out : Long 4 k
