-- What the functions of key making ask once row 1 has passed, and what the one that writes the keys leaves.
use Rattle.std.specs.Prelude.{◌≡◌, List, ℕ, ◌*◌, length, take, drop}
use Rattle.parameters.specs.declared.Parameters.{Parameters}
use Rattle.parameters.specs.Lengths.{ek_bytes, dk_bytes}
use Rattle.parameters.specs.Fits.{Fits}
use Rattle.kpke.specs.KPke.{ek_from, dk_from}
use Rattle.kpke.specs.Expanded.{Expanded}
use Rattle.mlkem.specs.MlKem.{whole_dk}
use Rattle.mlkem.specs.Sized.{KeyGenSized}

module _ (p : Parameters) where
  -- with room for the matrix in a₀
  pub record KeyGenInput (d z a₀ ek dk : List ℕ) : Type 0 where
    pub fits : Fits p
    pub sized : KeyGenSized p d z ek dk
    pub room : length a₀ ≡ 256 * p.k * p.k

  -- for rho || sigma in g and the matrix of rho in a
  pub record KeysInput (a g z₀ ek₀ dk₀ : List ℕ) : Type 0 where
    pub fits : Fits p
    pub matrix : Expanded p.k (take 32 g) a
    pub seeds : length g ≡ 64
    pub z : length z₀ ≡ 32
    pub ek : length ek₀ ≡ ek_bytes p
    pub dk : length dk₀ ≡ dk_bytes p

  pub record KeysWritten (g z ek₁ dk₁ : List ℕ) : Type 0 where
    pub ek : ek₁ ≡ ek_from p (take 32 g) (drop 32 g)
    pub dk : dk₁ ≡ whole_dk (dk_from p (drop 32 g)) (ek_from p (take 32 g) (drop 32 g)) z
