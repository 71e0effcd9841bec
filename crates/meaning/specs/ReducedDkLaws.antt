-- A key whose secret coefficients are below q is the reduced one: a polynomial that is read and encoded again is the
-- same.
use Rattle.std.specs.Prelude.{◌≡◌, ℕ, ◌*◌, ◌≤◌, ◌<◌, length}
use Rattle.std.proofs.Common.{sym, ◌∙◌, arith, length-take}
use Rattle.std.proofs.Math.Path.{ap}
use mathlib.Core.List.{List, ◌++◌}
use Rattle.std.proofs.Math.ListN.{drop, take-append-drop}
use Rattle.std.proofs.Math.Seq.{take_all}
use Rattle.words.specs.Bounded.{Below}
use Rattle.words.specs.BoundedLaws.{below-take, below-drop}
use Rattle.words.specs.Part.{length_part, part_fits}
use Rattle.words.specs.Residue.{q}
use Rattle.codec.specs.Bytes.{byte_encode, byte_decode}
use Rattle.codec.specs.BytesLaws.{length-byte_decode, byte_encode-byte_decode, byte_decode12-below}
use Rattle.parameters.specs.declared.Parameters.{Parameters}
use Rattle.parameters.specs.Lengths.{vector_bytes}
use Rattle.vectors.specs.Vector.{parts, coefficients}
use Rattle.vectors.specs.VectorLaws
use Rattle.vectors.specs.VectorLaws.{concat_cong, parts-concat, concat-parts}
use Rattle.mlkem.specs.MlKem.{secret_part}
use Rattle.meaning.specs.ReducedDk.{secret_at, reduced_dk}

module _ (p : Parameters) (dk : List ℕ) (bytes : Below 256 dk) (long : vector_bytes p ≤ length dk)
    (below : Below q (coefficients p.k (secret_part p dk))) where
  length-secret : length (secret_part p dk) ≡ 384 * p.k
  length-secret = length-take (vector_bytes p) dk ∙ omega arith

  each_decoded : VectorLaws.Each 256 p.k (λ i. byte_decode 12 (parts 384 (secret_part p dk) i))
  each_decoded = record { long = λ i h. length-byte_decode 12 (parts 384 (secret_part p dk) i) }

  below_decoded : (i : ℕ) → i < p.k → Below q (byte_decode 12 (parts 384 (secret_part p dk) i))
  unfolding coefficients
  below_decoded i h = rw (sym (parts-concat each_decoded i h)) (below-take 256 (below-drop (256 * i) below))

  encoded_again : (i : ℕ) → i < p.k → byte_encode 12 (secret_at p dk i) ≡ parts 384 (secret_part p dk) i
  encoded_again i h =
      let part = parts 384 (secret_part p dk) i in
      ap (byte_encode 12) (byte_decode12-below part (below_decoded i h))
      ∙ byte_encode-byte_decode 12 part
      (length_part (384 * i) 384 (secret_part p dk) (omega (arith, part_fits 384 h, length-secret)))
      (below-take 384 (below-drop (384 * i) (below-take (vector_bytes p) bytes)))

  pub reduced_dk_below : reduced_dk p dk ≡ dk
  unfolding reduced_dk
  reduced_dk_below =
      ap (λ (l : List ℕ). l ++ drop (vector_bytes p) dk)
      (concat_cong p.k encoded_again
      ∙ concat-parts 384 p.k (secret_part p dk)
      ∙ take_all (384 * p.k) (secret_part p dk) (omega (arith, length-secret)))
      ∙ take-append-drop (vector_bytes p) dk
