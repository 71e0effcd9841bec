-- What K-PKE.KeyGen's lines 8 to 20 (FIPS 203, algorithm 13) ask of the lent slices, and what they leave in two.
use Rattle.std.specs.Prelude.{◌≡◌, List, ℕ, ◌*◌, length}
use Rattle.parameters.specs.declared.Parameters.{Parameters}
use Rattle.parameters.specs.Lengths.{vector_bytes, ek_bytes}
use Rattle.parameters.specs.Fits.{Fits}
use Rattle.kpke.specs.KPke.{ek_from, dk_from}
use Rattle.kpke.specs.Expanded.{Expanded}

module _ (p : Parameters) where
  -- the matrix of rho in a, line 1's rho and sigma, and the slices for the keys
  pub record PkeKeysInput (a rho₀ sigma₀ ek₀ dk₀ : List ℕ) : Type 0 where
    pub fits : Fits p
    pub matrix : Expanded p.k rho₀ a
    pub rho : length rho₀ ≡ 32
    pub sigma : length sigma₀ ≡ 32
    pub ek : length ek₀ ≡ ek_bytes p
    pub dk : length dk₀ ≡ vector_bytes p

  -- the room for s-hat and t-hat
  pub record PkeKeysRoom (s₀ t₀ : List ℕ) : Type 0 where
    pub s : length s₀ ≡ 256 * p.k
    pub t : length t₀ ≡ 256 * p.k

  pub record PkeKeysWritten (rho sigma ek₁ dk₁ : List ℕ) : Type 0 where
    pub ek : ek₁ ≡ ek_from p rho sigma
    pub dk : dk₁ ≡ dk_from p sigma
