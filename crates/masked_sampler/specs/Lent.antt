-- What the functions ask of bits and of the masks lent to them, and what a bit that is read is.
use Rattle.std.specs.Prelude.{◌≡◌, List, ℕ, ◌<◌, ◌≤◌, length}
use Rattle.words.specs.Bounded.{Below}
use Rattle.words.specs.Residue.{q}
use Rattle.worksheet.specs.Shares.{Shares}
use Rattle.worksheet.specs.BitShares.{BitShares}
use Rattle.worksheet.specs.SharedList.{SharedList}
use Rattle.masked_sampler.specs.Coefficient.{sampler_coeffs}
use Rattle.masked_sampler.specs.Bit.{bit_of}

-- r is bit j of the word w, in two shares
pub record BitRead (w : Shares) (j : ℕ) (r : Shares) : Type 0 where
  pub is : r ≡ bit_of w j
  pub bits : BitShares r

-- a width, and its mask coefficients
pub record SamplerLent (eta : ℕ) (cs : List ℕ) : Type 0 where
  pub positive : 0 < eta
  pub width : eta ≤ 3
  pub masks : sampler_coeffs eta ≤ length cs
  pub below : Below q cs

-- the same, and room for six terms in two shares
pub record TermsLent (eta : ℕ) (cs : List ℕ) (terms : SharedList) : Type 0 where
  pub lent : SamplerLent eta cs
  pub long0 : length terms.s0 ≡ 6
  pub long1 : length terms.s1 ≡ 6
