-- The passes on one share: their lengths and bounds, and what they read.
use mathlib.Core.Path.{◌≡◌, ap₂, ◌∙◌}
use mathlib.Core.List.{List}
use Prim.Native.Nat.{ℕ, ◌+◌, ◌*◌, ◌<◌}
use native.Mathlib.Omega.{arith}
use lib.ListN.{length, length-append}
use Rattle.words.specs.Bounded.{Below}
use Rattle.words.specs.BoundedLaws.{below_append}
use Rattle.words.specs.Residue.{q}
use Rattle.ring.specs.Polynomial.{add}
use Rattle.ring.specs.Sum.{length-add, below-add}
use Rattle.transform.specs.Linear.{length-inverse_ntt}
use Rattle.transform.specs.Transform.{ntt, inverse_ntt}
use Rattle.vectors.specs.Vector.{concat}
use Rattle.vectors.specs.VectorLaws.{length-concat, below-concat, dot_cong}
use Rattle.masked_encryption_passes.specs.Passes.{u_pass, v_pass, uv_pass}

module _ (k : ℕ) (y : ℕ → List ℕ) where
  pub length-u_pass : (a : ℕ → ℕ → List ℕ) (e1 : List ℕ) (i : ℕ) → length (u_pass k a y e1 i) ≡ 256
  unfolding u_pass
  length-u_pass a e1 i = length-add _ _ ∙ length-inverse_ntt _

  pub length-v_pass : (t : ℕ → List ℕ) (e2 mu : List ℕ) → length (v_pass k t y e2 mu) ≡ 256
  unfolding v_pass
  length-v_pass t e2 mu = length-add _ _ ∙ length-add _ _ ∙ length-inverse_ntt _

pub length_us : (k : ℕ) (a : ℕ → ℕ → List ℕ) (y e1 : ℕ → List ℕ)
    → length (concat k (λ i. u_pass k a y (e1 i) i)) ≡ 256 * k
length_us k a y e1 = length-concat (record { long = λ i h. length-u_pass k y a (e1 i) i })

pub length-uv_pass : (k : ℕ) (a : ℕ → ℕ → List ℕ) (t n : ℕ → List ℕ) (mu : List ℕ)
    → length (uv_pass k a t n mu) ≡ 256 * (k + 1)
unfolding uv_pass
length-uv_pass k a t n mu =
    let y : ℕ → List ℕ = λ j. ntt (n j) in
    length-append (concat k (λ i. u_pass k a y (n (k + i)) i)) (v_pass k t y (n (2 * k)) mu)
    ∙ omega (arith, length_us k a y (λ i. n (k + i)), length-v_pass k y t (n (2 * k)) mu)

pub below-uv_pass : (k : ℕ) (a : ℕ → ℕ → List ℕ) (t n : ℕ → List ℕ) (mu : List ℕ) → Below q (uv_pass k a t n mu)
unfolding uv_pass u_pass v_pass
below-uv_pass k a t n mu = below_append _ (below-concat k (omega arith) (λ i g. below-add _ _)) (below-add _ _)

module _ (k : ℕ) {y z : ℕ → List ℕ} (h : (j : ℕ) → j < k → y j ≡ z j) where
  pub u_pass_cong : (a b : ℕ → ℕ → List ℕ) {e f : List ℕ} (i : ℕ) → ((j : ℕ) → j < k → a j i ≡ b j i) → e ≡ f
      → u_pass k a y e i ≡ u_pass k b z f i
  unfolding u_pass
  u_pass_cong a b i g e = ap₂ (λ (x y : List ℕ). add (inverse_ntt x) y) (dot_cong k g h) e

  pub v_pass_cong : {t u : ℕ → List ℕ} {e f : List ℕ} (mu : List ℕ) → ((j : ℕ) → j < k → t j ≡ u j) → e ≡ f
      → v_pass k t y e mu ≡ v_pass k u z f mu
  unfolding v_pass
  v_pass_cong mu g e = ap₂ (λ (x y : List ℕ). add (add (inverse_ntt x) y) mu) (dot_cong k g h) e
