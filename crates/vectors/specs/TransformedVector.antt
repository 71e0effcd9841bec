-- A vector whose polynomials are transformed, each where it stands.
use Rattle.std.specs.Prelude.{◌≡◌, List, ℕ, ◌*◌, ◌<◌, length}
use Rattle.std.proofs.Common.{ap, ◌∙◌}
use Rattle.transform.specs.Linear.{ntt-linear}
use Rattle.transform.specs.Transform.{ntt}
use Rattle.vectors.specs.Vector.{parts, concat}
use Rattle.vectors.specs.VectorLaws.{Each, length-concat, parts-concat}

pub each_transformed : {k : ℕ} {f : ℕ → List ℕ} → Each 256 k f → Each 256 k (λ i. ntt (f i))
each_transformed {k} {f} e = record { long = λ i h. ntt-linear.long (f i) (e.long i h) }

module _ {k : ℕ} {f : ℕ → List ℕ} {v : List ℕ} (e : Each 256 k f) (w : v ≡ concat k (λ i. ntt (f i))) where
  pub length_transformed : length v ≡ 256 * k
  length_transformed = ap length w ∙ length-concat (each_transformed e)

  pub transformed_at : (i : ℕ) → i < k → parts 256 v i ≡ ntt (f i)
  transformed_at i h = ap (λ (l : List ℕ). parts 256 l i) w ∙ parts-concat (each_transformed e) i h
