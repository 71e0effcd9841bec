-- Algorithm 13, line 18, and algorithm 14, lines 19 and 21 (FIPS 203), call by call: a row by a vector, a transform,
-- noise.
use mathlib.Core.Path.{◌≡◌, refl, ap, ap₂, ◌∙◌}
use mathlib.Core.List.{List, map}
use Prim.Native.Nat.{ℕ, ◌+◌, ◌*◌, ◌<◌, ◌≤◌}
use native.Mathlib.Nat.{add_comm}
use native.Mathlib.Omega.{arith}
use lib.ListN.{length}
use Rattle.codec.specs.Bytes.{byte_decode}
use Rattle.codec.specs.Compress.{decompress}
use Rattle.ring.specs.Polynomial.{add}
use Rattle.transform.specs.Transform.{ntt, inverse_ntt}
use Rattle.vectors.specs.Vector.{parts, dot}
use Rattle.kpke.specs.KPke.{noise, public_polynomial, first_part, second_part}
use Rattle.vectors.specs.VectorLaws.{dot_cong}
use Rattle.kpke.specs.Expanded.{places_of}
use Rattle.kpke.proofs.Encoded.{place_fits}

-- the places of row i and of column i lie within the matrix
pub row_fits : (k i j : ℕ) (a : List ℕ) → length a ≡ 256 * k * k → i < k → j < k
    → 256 * (k * i + 1 * j) + 256 ≤ length a
row_fits k i j a e h g = omega (arith, place_fits k i j h g)

pub column_fits : (k i j : ℕ) (a : List ℕ) → length a ≡ 256 * k * k → i < k → j < k → 256 * (i + k * j) + 256 ≤ length a
column_fits k i j a e h g = omega (arith, place_fits k j i g h)

pub public_polynomial_calls : (k i : ℕ) (a s : List ℕ) (e : ℕ → List ℕ) {product hat t : List ℕ}
    → product ≡ dot k (λ j. parts 256 a (k * i + 1 * j)) (parts 256 s) → hat ≡ e i → t ≡ add product hat
    → t ≡ public_polynomial k (places_of k a) (parts 256 s) e i
unfolding public_polynomial
public_polynomial_calls k i a s e ep eh et =
    let at : (j : ℕ) → k * i + 1 * j ≡ k * i + j = λ j. omega arith in
    et ∙ ap₂ add (ep ∙ dot_cong k (λ j h. ap (parts 256 a) (at j)) (λ j h. refl)) eh

pub ntt_of_lem : {e n hat : List ℕ} → e ≡ n → hat ≡ ntt e → hat ≡ ntt n
ntt_of_lem ee eh = eh ∙ ap ntt ee

-- dot goes down column i by i + k * j, which the matrix's definition writes k * j + i
pub first_part_calls : (k eta i : ℕ) (a y r : List ℕ) {product back e1 u : List ℕ}
    → product ≡ dot k (λ j. parts 256 a (i + k * j)) (parts 256 y) → back ≡ inverse_ntt product
    → e1 ≡ noise eta r (k + i) → u ≡ add back e1 → u ≡ first_part k eta (places_of k a) (parts 256 y) r i
unfolding first_part
first_part_calls k eta i a y r ep eb ee eu =
    eu
    ∙ ap₂ add
    (eb ∙ ap inverse_ntt (ep ∙ dot_cong k (λ j h. ap (parts 256 a) (add_comm i (k * j))) (λ j h. refl)))
    ee

pub second_part_calls : (k eta : ℕ) (t y m r : List ℕ) {product back e2 noisy mu v : List ℕ}
    → product ≡ dot k (λ j. parts 256 t (0 + 1 * j)) (parts 256 y) → back ≡ inverse_ntt product
    → e2 ≡ noise eta r (2 * k) → noisy ≡ add back e2 → mu ≡ map (decompress 1) (byte_decode 1 m) → v ≡ add noisy mu
    → v ≡ second_part k eta (parts 256 t) (parts 256 y) m r
unfolding second_part
second_part_calls k eta t y m r ep eb ee en em ev =
    let at : (j : ℕ) → 0 + 1 * j ≡ j = λ j. omega arith in
    let product = ep ∙ dot_cong k (λ j h. ap (parts 256 t) (at j)) (λ j h. refl) in
    ev ∙ ap₂ add (en ∙ ap₂ add (eb ∙ ap inverse_ntt product) ee) em
