-- Row 1 passed: the lent buffers have their lengths.
use Rattle.std.specs.Prelude.{◌≡◌, List, ℕ, length}
use Rattle.parameters.specs.declared.Parameters.{Parameters}
use Rattle.parameters.specs.Lengths.{ek_bytes, dk_bytes, ct_bytes}

module _ (p : Parameters) where
  pub record KeyGenSized (d₀ z₀ ek₀ dk₀ : List ℕ) : Type 0 where
    pub d : length d₀ ≡ 32
    pub z : length z₀ ≡ 32
    pub ek : length ek₀ ≡ ek_bytes p
    pub dk : length dk₀ ≡ dk_bytes p

  pub record EncapsSized (ek₀ m₀ ct₀ k₀ : List ℕ) : Type 0 where
    pub ek : length ek₀ ≡ ek_bytes p
    pub m : length m₀ ≡ 32
    pub ct : length ct₀ ≡ ct_bytes p
    pub k : length k₀ ≡ 32
