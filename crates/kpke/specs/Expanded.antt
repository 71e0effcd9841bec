-- The matrix A-hat (FIPS 203, algorithm 13, lines 3 to 7) in one list, its rows one after the other.
use Rattle.std.specs.Prelude.{◌≡◌, refl, true, false, List, T, length, take, drop}
use Rattle.std.proofs.Common.{sym, ap, ◌∙◌, mul_assoc, arith, leb-true, drop-drop}
use Rattle.std.proofs.Math.Bool.{Bool}
use Prim.Native.Nat.{ℕ, ◌+◌, ◌*◌, ◌<◌}
use Rattle.words.specs.Part.{part_take, part_fits}
use Rattle.words.specs.Table.{every}
use Rattle.words.specs.TableLaws.{every_at}
use Rattle.sampling.specs.Sample.{full, accepted}
use Rattle.sampling.specs.SampleLaws.{length-sample_ntt}
use Rattle.hash_functions.specs.Functions.{XOF}
use Rattle.vectors.specs.Vector.{parts, concat}
use Rattle.kpke.specs.KPke.{matrix, matrix_full}
use Rattle.vectors.specs.VectorLaws.{Each, length-concat, parts-concat}

-- place (i, j) of such a list
abbrev pub places_of : ℕ → List ℕ → ℕ → ℕ → List ℕ
places_of k a i j = parts 256 a (k * i + j)

-- a holds the matrix of rho
pub record Expanded (k : ℕ) (rho a : List ℕ) : Type 0 where
  pub long : length a ≡ 256 * k * k
  pub at : (i j : ℕ) → i < k → j < k → places_of k a i j ≡ matrix rho i j

of_true : (b : Bool) → b ≡ true → T b
of_true true e = tt
of_true false e = let z : ◌≡◌ {A = ℕ} 0 1 = cc in absurd (omega arith)

to_true : (b : Bool) → T b → b ≡ true
to_true true t = refl
to_true false t = absurd t

module _ (k : ℕ) (rho : List ℕ) (h : matrix_full k rho ≡ true) where
  -- the stream of place (i, j) yields 256 coefficients
  pub place_full : (i j : ℕ) → i < k → j < k → full (XOF rho i j) ≡ true
  unfolding matrix_full
  place_full i j g f =
      let row_full : ℕ → Bool = λ i. every k (λ j. full (XOF rho i j)) in
      let t = every_at k row_full (of_true (every k row_full) h) i g in
      to_true (full (XOF rho i j)) (every_at k (λ j. full (XOF rho i j)) t j f)

  row : (i : ℕ) → i < k → Each 256 k (matrix rho i)
  row i g =
      record {
        long = λ j f.
            length-sample_ntt (XOF rho i j) (leb-true 256 (length (accepted 280 (XOF rho i j))) (place_full i j g f));
      }

  rows : Each (256 * k) k (λ i. concat k (matrix rho i))
  rows = record { long = λ i g. length-concat (row i g) }

  pub expanded-concat : Expanded k rho (concat k (λ i. concat k (matrix rho i)))
  expanded-concat = record { long = length-concat rows; at = at }
    where
      a : List ℕ
      a = concat k (λ i. concat k (matrix rho i))

      at : (i j : ℕ) → i < k → j < k → places_of k a i j ≡ matrix rho i j
      at i j f g =
          let e : 256 * (k * i + j) ≡ 256 * k * i + 256 * j = omega (arith, mul_assoc 256 k i) in
          rw e
          (ap (take 256) (sym (drop-drop (256 * j) (256 * k * i) a))
          ∙ sym (part_take (256 * j) 256 (256 * k) (drop (256 * k * i) a) (omega (arith, part_fits 256 g)))
          ∙ ap (λ (l : List ℕ). take 256 (drop (256 * j) l)) (parts-concat rows i f)
          ∙ parts-concat (row i f) j g)
