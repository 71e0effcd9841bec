-- Laws of vectors (FIPS 203, section 2.4.6): k parts of n elements, one after the other.
use Rattle.std.specs.Prelude.{◌≡◌, refl, List, ◌++◌, map, ℕ, zero, suc, ◌+◌, ◌*◌, ◌%◌, ◌<◌}
use Rattle.std.specs.Prelude.{length, take, drop, replicate}
use Rattle.std.proofs.Common.{sym, ap, ap₂, ◌∙◌, mul-zero, mul-suc, le_of_eq, arith, length-append, take-add, drop_at}
use Rattle.std.proofs.lemmas.List.{map-append}
use Rattle.std.proofs.Math.Decide.{dec_lt}
use Rattle.std.proofs.Math.Seq.{take-length}
use Rattle.words.specs.Bounded.{Below}
use Rattle.words.specs.BoundedLaws.{below_nil, below_append}
use Rattle.words.specs.IterateLaws.{iterate_cong}
use Rattle.words.specs.Part.{length_part, part_append, part_fits, part_within}
use Rattle.words.specs.Residue.{q}
use Rattle.codec.specs.Bytes.{byte_decode, byte_decode12}
use Rattle.codec.specs.BytesLaws.{length-byte_decode}
use Rattle.ring.specs.Polynomial.{add}
use Rattle.transform.specs.Transform.{multiply_ntts}
use Rattle.vectors.specs.Vector.{parts, concat, coefficients, dot}

-- each of the k parts has n elements
pub record Each (n k : ℕ) (f : ℕ → List ℕ) : Type 0 where
  pub long : (i : ℕ) → i < k → length (f i) ≡ n

each_less : {n k : ℕ} {f : ℕ → List ℕ} → Each n (suc k) f → Each n k f
each_less e = record { long = λ i h. e.long i (omega arith) }

pub length-concat : {n k : ℕ} {f : ℕ → List ℕ} → Each n k f → length (concat k f) ≡ n * k
unfolding concat
length-concat {n} {k = zero} e = sym (mul-zero n)
length-concat {n} {k = suc k} {f} e =
    length-append (concat k f) (f k)
    ∙ ap₂ (λ (x y : ℕ). x + y) (length-concat (each_less e)) (e.long k (omega arith))
    ∙ sym (mul-suc n k)

pub concat_cong : (k : ℕ) {f g : ℕ → List ℕ} → ((i : ℕ) → i < k → f i ≡ g i) → concat k f ≡ concat k g
unfolding concat
concat_cong zero h = refl
concat_cong (suc k) h =
    ap₂ (λ (x y : List ℕ). x ++ y) (concat_cong k (λ i g. h i (omega arith))) (h k (omega arith))

map-concat : (g : ℕ → ℕ) (k : ℕ) (f : ℕ → List ℕ) → map g (concat k f) ≡ concat k (λ i. map g (f i))
unfolding concat
map-concat g zero f = refl
map-concat g (suc k) f =
    map-append g (concat k f) (f k) ∙ ap (λ (l : List ℕ). l ++ map g (f k)) (map-concat g k f)

pub parts-concat : {n k : ℕ} {f : ℕ → List ℕ} → Each n k f → (i : ℕ) → i < k → parts n (concat k f) i ≡ f i
unfolding concat
parts-concat {n} {k = zero} e i h = absurd (omega arith)
parts-concat {n} {k = suc k} {f} e i h = go (dec_lt i k) (parts-concat (each_less e) i)
  where
    go : Dec (i < k) → (i < k → parts n (concat k f) i ≡ f i) → parts n (concat k f ++ f k) i ≡ f i
    go (yes g) r =
        part_append (n * i) n (concat k f) (f k) (omega (arith, part_fits n g, length-concat (each_less e))) ∙ r g
    go (no g) r =
        let w : i ≡ k = omega arith in
        rw w
        (ap (take n) (drop_at (concat k f) (f k) (n * k) (length-concat (each_less e)))
        ∙ ap (λ (m : ℕ). take m (f k)) (sym (e.long k (omega arith)))
        ∙ take-length (f k))

pub below-concat : {b : ℕ} (k : ℕ) {f : ℕ → List ℕ} → 0 < b → ((i : ℕ) → i < k → Below b (f i)) → Below b (concat k f)
unfolding concat
below-concat zero p h = below_nil p
below-concat (suc k) {f} p h =
    below_append (concat k f) (below-concat k p (λ i g. h i (omega arith))) (h k (omega arith))

pub length-coefficients : (k : ℕ) (b : List ℕ) → length (coefficients k b) ≡ 256 * k
unfolding coefficients
length-coefficients k b = length-concat (record { long = λ i h. length-byte_decode 12 (parts 384 b i) })

-- the coefficients modulo q, polynomial by polynomial as ByteDecode_12 reads them
pub reduced_coefficients : (k : ℕ) (b : List ℕ)
    → map (λ x. x % q) (coefficients k b) ≡ concat k (λ i. byte_decode12 (parts 384 b i))
unfolding coefficients byte_decode12
reduced_coefficients k b = map-concat (λ x. x % q) k (λ i. byte_decode 12 (parts 384 b i))

-- the k parts of a list of n k elements
pub each_part : (n k : ℕ) (l : List ℕ) → length l ≡ n * k → Each n k (parts n l)
each_part n k l e = record { long = λ i h. length_part (n * i) n l (part_within n (le_of_eq (sym e)) h) }

-- the parts of a list one after the other
pub concat-parts : (n k : ℕ) (l : List ℕ) → concat k (parts n l) ≡ take (n * k) l
unfolding concat
concat-parts n zero l = rw (mul-zero n)
concat-parts n (suc k) l =
    ap (λ (m : List ℕ). m ++ take n (drop (n * k) l)) (concat-parts n k l)
    ∙ sym (take-add (n * k) n l)
    ∙ ap (λ (m : ℕ). take m l) (sym (mul-suc n k))

pub dot_cong : (k : ℕ) {f g u v : ℕ → List ℕ} → ((j : ℕ) → j < k → f j ≡ u j) → ((j : ℕ) → j < k → g j ≡ v j)
    → dot k f g ≡ dot k u v
unfolding dot
dot_cong k h e =
    iterate_cong k (replicate 256 0) (λ j l s. ap₂ (λ (x y : List ℕ). add s (multiply_ntts x y)) (h j l) (e j l))

-- the product with all parts of a, as `dot` reads them
pub dot_whole : (k : ℕ) (a : List ℕ) (g : ℕ → List ℕ) → dot k (λ j. parts 256 a (0 + 1 * j)) g ≡ dot k (parts 256 a) g
dot_whole k a g = dot_cong k (λ j h. let e : 0 + 1 * j ≡ j = omega arith in ap (parts 256 a) e) (λ j h. refl)
