-- The noise y, e1 and e2 in one slice, 2 k + 1 polynomials.
use mathlib.Core.Path.{◌≡◌, ap, ◌∙◌}
use mathlib.Core.List.{List}
use Prim.Native.Nat.{ℕ, ◌+◌, ◌-◌, ◌*◌, ◌<◌}
use native.Mathlib.Omega.{arith}
use lib.ListN.{length, take, drop}
use lib.Seq.{length-take-le, drop-drop}
use Rattle.words.specs.Part.{part_take, part_fits}
use Rattle.transform.specs.Transform.{ntt}
use Rattle.vectors.specs.Vector.{parts, concat}
use Rattle.vectors.specs.VectorLaws.{Each, each_part}
use Rattle.vectors.specs.TransformedVector.{length_transformed, transformed_at}

module _ (k : ℕ) (n : List ℕ) (e : length n ≡ 256 * (2 * k + 1)) where
  each_y : Each 256 k (parts 256 (take (256 * k) n))
  each_y = each_part 256 k (take (256 * k) n) (length-take-le (256 * k) n (omega arith))

  pub length_y : {z : List ℕ} → z ≡ concat k (λ j. ntt (parts 256 (take (256 * k) n) j)) → length z ≡ 256 * k
  length_y h = length_transformed each_y h

  -- y, transformed
  pub y_at : {z : List ℕ} → z ≡ concat k (λ j. ntt (parts 256 (take (256 * k) n) j)) → (j : ℕ) → j < k
      → parts 256 z j ≡ ntt (parts 256 n j)
  y_at h j g =
      transformed_at each_y h j g
      ∙ ap ntt (part_take (256 * j) 256 (256 * k) n (part_fits 256 g))

  pub e1_at : (i : ℕ) → i < k → parts 256 (take (256 * k) (drop (256 * k) n)) i ≡ parts 256 n (k + i)
  e1_at i g =
      part_take (256 * i) 256 (256 * k) (drop (256 * k) n) (part_fits 256 g)
      ∙ ap (take 256) (drop-drop (256 * i) (256 * k) n)
      ∙ ap (λ (x : ℕ). take 256 (drop x n)) {x = 256 * k + 256 * i} {y = 256 * (k + i)} (omega arith)

  pub e2_at : take (length n - (256 * k + 256 * k)) (drop (256 * k + 256 * k) n) ≡ parts 256 n (2 * k)
  e2_at =
      let a : length n - (256 * k + 256 * k) ≡ 256 = omega arith in
      let b : 256 * k + 256 * k ≡ 256 * (2 * k) = omega arith in
      rw (a, b)
