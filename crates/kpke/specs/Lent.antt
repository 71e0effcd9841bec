-- What K-PKE's functions ask of their slices and numbers: a vector is k parts of 256 coefficients, a seed 32 bytes.
use Rattle.std.specs.Prelude.{◌≡◌, List, ℕ, ◌+◌, ◌*◌, ◌<◌, ◌≤◌, length, drop}
use Rattle.words.specs.Residue.{q}
use Rattle.words.specs.Bounded.{Below}
use Rattle.parameters.specs.declared.Parameters.{Parameters}
use Rattle.parameters.specs.Lengths.{vector_bytes, ek_bytes, ct_bytes}
use Rattle.parameters.specs.Fits.{Fits}
use Rattle.kpke.specs.Expanded.{Expanded}

-- PRF_eta's seed and SamplePolyCBD_eta's width (FIPS 203, algorithm 8)
pub record NoiseSeed (seed : List ℕ) (eta : ℕ) : Type 0 where
  pub long : length seed ≡ 32
  pub some : 0 < eta
  pub most : eta ≤ 3

-- noise n, to f
pub record NoiseInput (seed : List ℕ) (eta n : ℕ) (f : List ℕ) : Type 0 where
  pub from : NoiseSeed seed eta
  pub nonce : n < 256
  pub polynomial : length f ≡ 256

-- SampleNTT (algorithm 7) of matrix places, k to a row, to n coefficients of a
pub record ExpandInput (rho : List ℕ) (k n : ℕ) (a : List ℕ) : Type 0 where
  pub seed : length rho ≡ 32
  pub rank : k ≤ 256
  pub room : length a ≡ n

-- a row (algorithm 13, line 18) or a column (algorithm 14, line 19) of the matrix a times the vector v, and noise
pub record RowInput (a v seed : List ℕ) (eta k : ℕ) : Type 0 where
  pub matrix : length a ≡ 256 * k * k
  pub vector : length v ≡ 256 * k
  pub noise : NoiseSeed seed eta
  pub rank : k ≤ 128

-- algorithm 14, line 21: t-hat, y-hat, the message and the coins
pub record SecondInput (t y m r : List ℕ) (eta k : ℕ) : Type 0 where
  pub public : length t ≡ 256 * k
  pub vector : length y ≡ 256 * k
  pub message : length m ≡ 32
  pub noise : NoiseSeed r eta
  pub rank : k < 128

-- algorithm 14, lines 22 and 23: u, v and their depths
pub record CiphertextInput (u v : List ℕ) (du dv k : ℕ) : Type 0 where
  pub first : length u ≡ 256 * k
  pub second : length v ≡ 256
  pub du_some : 0 < du
  pub du_most : du ≤ 11
  pub dv_some : 0 < dv
  pub dv_most : dv ≤ 11

-- algorithm 13, line 19: t-hat and rho, to ek
pub record EkInput (t rho : List ℕ) (k : ℕ) (ek : List ℕ) : Type 0 where
  pub vector : length t ≡ 256 * k
  pub below : Below q t
  pub seed : length rho ≡ 32
  pub bytes : length ek ≡ 384 * k + 32

-- ---- for a parameter set

module _ (p : Parameters) where
  -- algorithm 14: the matrix, the public key, the message, the coins and the ciphertext
  pub record EncryptInput (a ek m r ct : List ℕ) : Type 0 where
    pub fits : Fits p
    pub matrix : Expanded p.k (drop (vector_bytes p) ek) a
    pub public : length ek ≡ ek_bytes p
    pub message : length m ≡ 32
    pub coins : length r ≡ 32
    pub bytes : length ct ≡ ct_bytes p

  -- the room for its vectors t-hat, y-hat and u
  pub record EncryptRoom (t₀ y₀ u₀ : List ℕ) : Type 0 where
    pub t : length t₀ ≡ 256 * p.k
    pub y : length y₀ ≡ 256 * p.k
    pub u : length u₀ ≡ 256 * p.k
