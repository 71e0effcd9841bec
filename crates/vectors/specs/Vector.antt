-- FIPS 203, sections 2.4.6 and 2.4.7: vectors of polynomials. A vector is a function of its index, or one list with its
-- polynomials one after the other.
use Rattle.std.specs.Prelude.{List, ℕ, replicate}
use Rattle.words.specs.Iterate.{iterate}
pub use Rattle.slices.specs.Parts.{parts}
unfoldable pub use Rattle.slices.specs.Parts.{concat}
use Rattle.codec.specs.Bytes.{byte_decode}
use Rattle.ring.specs.Polynomial.{add}
use Rattle.transform.specs.Transform.{multiply_ntts}

-- the coefficients that an encoded vector holds, as they stand: ByteDecode_12 (algorithm 6) before it reduces them,
-- what the modulus check of section 7.2 looks at
unfoldable pub coefficients : ℕ → List ℕ → List ℕ
coefficients k b = concat k (λ i. byte_decode 12 (parts 384 b i))

-- the sum of the products, in the transform's domain (2.4.7): a row of a matrix or vector by a vector
unfoldable pub dot : ℕ → (ℕ → List ℕ) → (ℕ → List ℕ) → List ℕ
dot k f g = iterate k (λ j s. add s (multiply_ntts (f j) (g j))) (replicate 256 0)
