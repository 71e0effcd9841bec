-- The file b of a strip: m words, then n coefficients.
use Rattle.std.specs.Prelude.{◌≡◌, List, ℕ, ◌*◌, take, drop}
use Rattle.buffers.specs.LittleEndian.{numbers}

-- what it is read into
pub record StripUnpacked (m n : ℕ) (b words₁ coeffs₁ : List ℕ) : Type 0 where
  pub words : words₁ ≡ numbers 8 m (take (8 * m) b)
  pub coeffs : coeffs₁ ≡ numbers 2 n (drop (8 * m) b)
