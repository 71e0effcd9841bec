-- What the noise asks of the slices that are lent, and what bits that are read are.
use Rattle.std.specs.Prelude.{List, ◌≡◌, ℕ, ◌+◌, ◌*◌, ◌/◌, ◌%◌, ◌<◌, ◌≤◌, length, get_or}
use Rattle.words.specs.Digit.{digit}
use Rattle.worksheet.specs.Shares.{Shares}
use Rattle.worksheet.specs.SharedList.{SharedList}
use Rattle.masked_sampler.specs.Coefficient.{sampler_coeffs}
use Rattle.parameters.specs.declared.Parameters.{Parameters}
use Rattle.parameters.specs.Fits.{Within, Fits}
use Rattle.stages.specs.Counts.{noise_words, noise_coeffs, stage5_words, stage5_coeffs}
use Rattle.stages.specs.Lent.{Long, Masks, ConvertInput}

-- ---- bits of one share

-- n bits, a word's at most, of the words o from bit s on
pub record BitsLent (s n : ℕ) (o : List ℕ) : Type 0 where
  pub some : 0 < n
  pub most : n ≤ 64
  pub within : s + n ≤ 64 * length o

-- they are the lowest bits of r
pub record BitsRead (o : List ℕ) (s n r : ℕ) : Type 0 where
  pub at : (j : ℕ) → j < n → digit j r ≡ digit ((s + j) % 64) (get_or o ((s + j) / 64) 0)

-- of both shares
pub record SharedBitsRead (o : SharedList) (s n : ℕ) (r : Shares) : Type 0 where
  pub bits0 : BitsRead o.s0 s n r.s0
  pub bits1 : BitsRead o.s1 s n r.s1

-- ---- noise of width eta

-- a polynomial's bits o, of which those of coefficient i are read
pub record CoefficientBits (eta i : ℕ) (o : SharedList) : Type 0 where
  pub width : Within 1 3 eta
  pub number : i < 256
  pub input : Long (8 * eta) o

-- the same, with the coefficient's masks
pub record CoefficientInput (eta i : ℕ) (o : SharedList) (cs : List ℕ) : Type 0 where
  pub bits : CoefficientBits eta i o
  pub coeffs : Masks (sampler_coeffs eta) cs

-- a polynomial's bits o, to be sampled
pub record SampleInput (eta : ℕ) (o : SharedList) (cs : List ℕ) (f : SharedList) : Type 0 where
  pub width : Within 1 3 eta
  pub convert : ConvertInput (8 * eta) (noise_coeffs eta) 256 o cs f

-- polynomials n to n + k - 1, from the coins r
pub record MaskedNoiseInput (eta n k : ℕ) (r : SharedList) (ws cs : List ℕ) (f : SharedList) : Type 0 where
  pub width : Within 1 3 eta
  pub numbers : n + k ≤ 256
  pub coins : Long 4 r
  pub words : noise_words eta * k ≤ length ws
  pub coeffs : Masks (noise_coeffs eta * k) cs
  pub out : Long (256 * k) f

-- polynomial n, and room for its bits
pub record PolynomialInput (eta n : ℕ) (r : SharedList) (ws cs : List ℕ) (o f : SharedList) : Type 0 where
  pub noise : MaskedNoiseInput eta n 1 r ws cs f
  pub bits : Long (8 * eta) o

-- ---- all of stage 5, from the coins r
pub record Stage5Input (p : Parameters) (r : SharedList) (ws cs : List ℕ) (f : SharedList) : Type 0 where
  pub fits : Fits p
  pub coins : Long 4 r
  pub words : stage5_words p ≤ length ws
  pub coeffs : Masks (stage5_coeffs p) cs
  pub out : Long (256 * (2 * p.k + 1)) f
