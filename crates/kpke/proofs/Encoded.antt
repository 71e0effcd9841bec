-- Ranges and lengths that the encodings ask for, and what fits the matrix.
use mathlib.Core.Path.{◌≡◌, refl, ap, ◌∙◌}
use mathlib.Core.List.{List, [], ◌∷◌, map}
use Prim.Native.Nat.{ℕ, zero, suc, ◌+◌, ◌*◌, ◌^◌, ◌<◌, ◌≤◌}
use native.Mathlib.Nat.{mul_assoc}
use native.Mathlib.Omega.{arith}
use lib.ListN.{length, take, drop}
use Rattle.words.specs.Bounded.{Below}
use Rattle.words.specs.Residue.{q}
use Rattle.codec.specs.Bytes.{byte_encode}
use Rattle.codec.specs.BytesLaws.{length-byte_encode}
use Rattle.codec.specs.Compress.{compress}
use Rattle.codec.specs.CompressLaws.{below-compress}
use Rattle.vectors.specs.Vector.{parts, concat}
use Rattle.words.specs.Part.{part_fits}
use Rattle.vectors.specs.VectorLaws.{length-concat, concat_cong}

-- what compress_all leaves
pub below_compressed : (d : ℕ) (l : List ℕ) {w : List ℕ} → w ≡ map (compress d) l → Below (2 ^ d) w
below_compressed d l e = rw e (below-compress d l)

pub below_byte_encode12 : {l : List ℕ} → Below q l → Below (2 ^ 12) l
below_byte_encode12 b = record { at = λ k. omega (arith, b.at k) }

map-take : (g : ℕ → ℕ) (n : ℕ) (l : List ℕ) → take n (map g l) ≡ map g (take n l)
map-take g zero l = refl
map-take g (suc n) [] = refl
map-take g (suc n) (x ∷ l) = ap (λ (m : List ℕ). g x ∷ m) (map-take g n l)

map-drop : (g : ℕ → ℕ) (n : ℕ) (l : List ℕ) → drop n (map g l) ≡ map g (drop n l)
map-drop g zero l = refl
map-drop g (suc n) [] = refl
map-drop g (suc n) (x ∷ l) = map-drop g n l

part_map : (g : ℕ → ℕ) (a n : ℕ) (l : List ℕ) → take n (drop a (map g l)) ≡ map g (take n (drop a l))
part_map g a n l = ap (take n) (map-drop g a l) ∙ map-take g n (drop a l)

-- u's polynomials, compressed all at once and then encoded
pub encoded_compressed : (d k : ℕ) (u : List ℕ) {w b : List ℕ} → w ≡ map (compress d) u
    → b ≡ concat k (λ i. byte_encode d (parts 256 w i))
    → b ≡ concat k (λ i. byte_encode d (map (compress d) (parts 256 u i)))
encoded_compressed d k u e g =
    g
    ∙ concat_cong k
    (λ i h. ap (byte_encode d) (ap (λ (l : List ℕ). parts 256 l i) e ∙ part_map (compress d) (256 * i) 256 u))

pub length_encoded : (d k : ℕ) (f : ℕ → List ℕ) → length (concat k (λ i. byte_encode d (f i))) ≡ 32 * d * k
length_encoded d k f = length-concat (record { long = λ i h. length-byte_encode d (f i) })

-- place (i, j) of k rows of k polynomials
pub place_fits : (k i j : ℕ) → i < k → j < k → 256 * (k * i + j) + 256 ≤ 256 * k * k
place_fits k i j h g = omega (arith, part_fits k h, mul_assoc 256 k k)
