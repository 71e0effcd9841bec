-- What the functions of FIPS 203's section 4.3 ask of their numbers and slices.
use Rattle.std.specs.Prelude.{◌≡◌, List, ℕ, ◌+◌, ◌*◌, ◌<◌, ◌≤◌, length}
use Rattle.words.specs.Tab.{tab}
use Rattle.transform.specs.Transform.{zeta, gamma}

-- Algorithms 9 and 10, lines 4 to 12: k blocks of 2 len coefficients of f, and the table of roots
pub record LayerInput (f zetas : List ℕ) (k len : ℕ) : Type 0 where
  pub blocks : k * (2 * len) ≤ length f
  pub count : k ≤ 64
  pub half : len ≤ 128
  pub table : zetas ≡ tab 128 zeta

-- Algorithm 11's constants from the table of roots
pub record GammaInput (zetas gammas : List ℕ) : Type 0 where
  pub table : zetas ≡ tab 128 zeta
  pub room : length gammas ≡ 128

-- Algorithm 12: pair i of f and of g, with its constant z, and of the sum s
pub record PairInput (s f g : List ℕ) (i z : ℕ) : Type 0 where
  pub sum : 2 * i + 1 < length s
  pub left : 2 * i + 1 < length f
  pub right : 2 * i + 1 < length g
  pub constant : z ≡ gamma i

-- Algorithm 11: the factors f and g, and the sum s
pub record ProductInput (s f g : List ℕ) : Type 0 where
  pub sum : length s ≡ 256
  pub left : length f ≡ 256
  pub right : length g ≡ 256
