-- What masked decryption asks of the slices that are lent.
use Rattle.std.specs.Prelude.{◌≡◌, List, ℕ, ◌*◌, ◌≤◌, length}
use Rattle.worksheet.specs.SharedList.{SharedList}
use Rattle.parameters.specs.declared.Parameters.{Parameters}
use Rattle.parameters.specs.Lengths.{ct_bytes}
use Rattle.parameters.specs.Fits.{Fits}
use Rattle.stages.specs.Counts.{decrypt_words}
use Rattle.stages.specs.Lent.{Long}

-- the ciphertext, and n coefficients for what one of its parts holds
pub record PartInput (p : Parameters) (n : ℕ) (c f : List ℕ) : Type 0 where
  pub fits : Fits p
  pub ct : length c ≡ ct_bytes p
  pub out : length f ≡ n

-- one share of the secret s times u, both of k polynomials, and w, from which the product is taken
pub record Product (k : ℕ) (s u w : List ℕ) : Type 0 where
  pub secret : length s ≡ 256 * k
  pub first : length u ≡ 256 * k
  pub out : length w ≡ 256

-- stage 1: the secret, the ciphertext, and where the noisy message goes
pub record NoisyInput (p : Parameters) (s : SharedList) (c : List ℕ) (w : SharedList) : Type 0 where
  pub fits : Fits p
  pub secret : Long (256 * p.k) s
  pub ct : length c ≡ ct_bytes p
  pub out : Long 256 w

-- with u, where the transforms of the ciphertext's first part go
pub record NoisyWork (p : Parameters) (s : SharedList) (c u : List ℕ) (w : SharedList) : Type 0 where
  pub input : NoisyInput p s c w
  pub first : length u ≡ 256 * p.k

-- stages 1 and 2: the secret, the ciphertext, the mask words, and where m' goes
pub record DecryptInput (p : Parameters) (s : SharedList) (c ws : List ℕ) (m : SharedList) : Type 0 where
  pub fits : Fits p
  pub secret : Long (256 * p.k) s
  pub ct : length c ≡ ct_bytes p
  pub words : decrypt_words ≤ length ws
  pub out : Long 4 m
