-- The parts of the vectors that key making and encryption work on: each has 256 coefficients, so that a vector's part
-- i is its polynomial i, and those that are encoded are below q.
use mathlib.Core.Path.{◌≡◌, ap, ◌∙◌}
use mathlib.Core.List.{List}
use Prim.Native.Nat.{ℕ, ◌+◌, ◌*◌, ◌<◌}
use native.Mathlib.Nat.{zero-add}
use native.Mathlib.Omega.{arith}
use lib.ListN.{length, take}
use Rattle.words.specs.Bounded.{Below}
use Rattle.words.specs.Residue.{q}
use Rattle.words.specs.Part.{part_take, part_fits}
use Rattle.codec.specs.Bytes.{byte_decode12}
use Rattle.codec.specs.BytesLaws.{length-byte_decode12}
use Rattle.ring.specs.Sum.{length-add, below-add}
use Rattle.transform.specs.Linear.{ntt-linear, length-inverse_ntt}
use Rattle.sampling.specs.SampleLaws.{length-sample_poly_cbd, below-sample_poly_cbd}
use Rattle.transform.specs.Transform.{ntt}
use Rattle.hash_functions.specs.Functions.{PRF}
use Rattle.vectors.specs.Vector.{parts, concat}
use Rattle.kpke.specs.KPke.{noise, first_part, public_polynomial}
use Rattle.vectors.specs.VectorLaws.{Each, parts-concat, concat_cong, below-concat}
use Rattle.vectors.specs.DotLaws.{length-dot}

pub each-noise : (eta k : ℕ) (seed : List ℕ) → Each 256 k (noise eta seed)
each-noise eta k seed = record { long = λ i h. length-sample_poly_cbd eta (PRF eta seed i) }

-- noise, transformed part by part
pub transformed_noise : (eta k : ℕ) (seed : List ℕ) {v w : List ℕ} → v ≡ concat k (λ i. noise eta seed (0 + i))
    → w ≡ concat k (λ i. ntt (parts 256 v i)) → w ≡ concat k (λ i. ntt (noise eta seed i))
transformed_noise eta k seed e g =
    g
    ∙ concat_cong k
    (λ i h.
    ap ntt
    (ap (λ (l : List ℕ). parts 256 l i) e
    ∙ parts-concat (record { long = λ j f. length-sample_poly_cbd eta _ }) i h
    ∙ ap (noise eta seed) (zero-add i)))

-- a vector of polynomials below q, and transformed noise as one
pub below_vector : (k : ℕ) (f : ℕ → List ℕ) {v : List ℕ} → v ≡ concat k f → ((i : ℕ) → Below q (f i)) → Below q v
below_vector k f e h = rw e (below-concat k (omega arith) (λ i g. h i))

pub below_transformed : (eta : ℕ) (seed : List ℕ) (i : ℕ) → Below q (ntt (noise eta seed i))
below_transformed eta seed i =
    (ntt-linear {n = 256}).below (noise eta seed i) (length-sample_poly_cbd eta (PRF eta seed i))
    (below-sample_poly_cbd eta (PRF eta seed i))

pub decoded_at : (k : ℕ) (b : List ℕ) {v : List ℕ} → v ≡ concat k (λ i. byte_decode12 (parts 384 (take (384 * k) b) i))
    → (i : ℕ) → i < k → parts 256 v i ≡ byte_decode12 (parts 384 b i)
decoded_at k b e i h =
    ap (λ (l : List ℕ). parts 256 l i) e
    ∙ parts-concat (record { long = λ j g. length-byte_decode12 (parts 384 (take (384 * k) b) j) }) i h
    ∙ ap byte_decode12 (part_take (384 * i) 384 (384 * k) b (part_fits 384 h))

module _ (k eta : ℕ) (a : ℕ → ℕ → List ℕ) (y : ℕ → List ℕ) (r : List ℕ) where
  length-first_part : (i : ℕ) → length (first_part k eta a y r i) ≡ 256
  unfolding first_part
  length-first_part i = length-add _ _ ∙ length-inverse_ntt _

  pub first_at : {u : List ℕ} → u ≡ concat k (first_part k eta a y r) → (i : ℕ) → i < k
      → parts 256 u i ≡ first_part k eta a y r i
  first_at e i h =
      ap (λ (l : List ℕ). parts 256 l i) e ∙ parts-concat (record { long = λ j g. length-first_part j }) i h

module _ (k : ℕ) (a : ℕ → ℕ → List ℕ) (s e : ℕ → List ℕ) where
  length-public_polynomial : (i : ℕ) → length (public_polynomial k a s e i) ≡ 256
  unfolding public_polynomial
  length-public_polynomial i = length-add _ _ ∙ length-dot k (a i) s

  pub public_at : {t : List ℕ} → t ≡ concat k (public_polynomial k a s e) → (i : ℕ) → i < k
      → parts 256 t i ≡ public_polynomial k a s e i
  public_at w i h =
      ap (λ (l : List ℕ). parts 256 l i) w ∙ parts-concat (record { long = λ j g. length-public_polynomial j }) i h

pub below_public : (k : ℕ) (a : ℕ → ℕ → List ℕ) (s e : ℕ → List ℕ) {t : List ℕ}
    → t ≡ concat k (public_polynomial k a s e) → Below q t
unfolding public_polynomial
below_public k a s e w = rw w (below-concat k (omega arith) (λ i g. below-add _ _))
