-- What the functions of encapsulation ask once row 1 has passed, and what those that write ciphertext and secret leave.
use Rattle.std.specs.Prelude.{◌≡◌, List, ℕ, ◌*◌, length}
use Rattle.parameters.specs.declared.Edition.{Edition}
use Rattle.parameters.specs.declared.Parameters.{Parameters}
use Rattle.parameters.specs.Fits.{Fits}
use Rattle.kpke.specs.Expanded.{Expanded}
use Rattle.mlkem.specs.Editions.{encaps_key, encaps_ct}
use Rattle.mlkem.specs.Calls.{rho_of}
use Rattle.mlkem.specs.Sized.{EncapsSized}

module _ (p : Parameters) where
  -- with room for the matrix in a₀
  pub record EncapsInput (ek m a₀ ct k : List ℕ) : Type 0 where
    pub fits : Fits p
    pub sized : EncapsSized p ek m ct k
    pub room : length a₀ ≡ 256 * p.k * p.k

  -- for the matrix of ek's rho in a
  pub record SecretInput (a ek m ct k : List ℕ) : Type 0 where
    pub fits : Fits p
    pub matrix : Expanded p.k (rho_of p ek) a
    pub sized : EncapsSized p ek m ct k

  -- by an edition
  pub record SecretWritten (e : Edition) (ek m ct₁ k₁ : List ℕ) : Type 0 where
    pub ct : ct₁ ≡ encaps_ct e p ek m
    pub k : k₁ ≡ encaps_key e p ek m
