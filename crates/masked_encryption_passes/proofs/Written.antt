-- u and v, made of the parts of one share's noise and written one behind the other.
use mathlib.Core.Path.{◌≡◌, refl, sym, ap, ap₂, ◌∙◌}
use mathlib.Core.List.{List, ◌++◌}
use Prim.Native.Nat.{ℕ, ◌+◌, ◌-◌, ◌*◌}
use native.Mathlib.Omega.{arith}
use lib.ListN.{length, take, drop, length-append, length-drop}
use lib.Seq.{take_at, drop_at, drop-drop}
use Rattle.words.specs.Overwrite.{two_parts}
use Rattle.transform.specs.Transform.{ntt}
use Rattle.vectors.specs.Vector.{parts, concat}
use Rattle.vectors.specs.VectorLaws.{concat_cong}
use Rattle.masked_encryption_passes.specs.Passes.{u_pass, v_pass, uv_pass}
use Rattle.masked_encryption_passes.proofs.NoiseParts.{length_y, y_at, e1_at, e2_at}
use Rattle.masked_encryption_passes.proofs.PassLaws.{length_us, length-v_pass, u_pass_cong, v_pass_cong}

module _ (k : ℕ) (a : ℕ → ℕ → List ℕ) (t : ℕ → List ℕ) (mu : List ℕ) where
  -- u, then v, for the transformed y
  abbrev pub uv_of : (ℕ → List ℕ) → (ℕ → List ℕ) → List ℕ → List ℕ
  uv_of y e1 e2 = concat k (λ i. u_pass k a y (e1 i) i) ++ v_pass k t y e2 mu

  -- the two parts of the slice l
  pub uv_written : (l : List ℕ) → length l ≡ 256 * (k + 1) → (y e1 : ℕ → List ℕ) (e2 : List ℕ) {r₁ r₂ : List ℕ}
      → r₁ ≡ concat k (λ i. u_pass k a y (e1 i) i) → r₂ ≡ v_pass k t y e2 mu
      → (let m = take 0 l ++ (r₁ ++ drop (256 * k - 0) (drop 0 l)) in
      take (256 * k) m ++ (r₂ ++ drop (length m - 256 * k) (drop (256 * k) m)))
      ≡ uv_of y e1 e2
  uv_written l long y e1 e2 h₁ h₂ =
      two_parts l (256 * k) (length_us k a y e1) (omega (arith, length-v_pass k y t e2 mu, long)) h₁ h₂

  module _ (n : List ℕ) (e : length n ≡ 256 * (2 * k + 1)) where
    -- y is the first k polynomials of n, e1 the next k and e2 the last
    uv_of_noise : (z : List ℕ) → z ≡ concat k (λ j. ntt (parts 256 (take (256 * k) n) j))
        → uv_of (parts 256 z) (parts 256 (take (256 * k) (drop (256 * k) n)))
        (take (length n - (256 * k + 256 * k)) (drop (256 * k + 256 * k) n))
        ≡ uv_pass k a t (parts 256 n) mu
    unfolding uv_pass
    uv_of_noise z h =
        ap₂ (λ (x y : List ℕ). x ++ y)
        (concat_cong k (λ i g. u_pass_cong k (y_at k n e h) a a i (λ j m. refl) (e1_at k n e i g)))
        (v_pass_cong k (y_at k n e h) mu (λ j m. refl) (e2_at k n e))

    -- y is transformed in its own place in n, and each part is lent by its start and its end
    pub uv_of_parts : (z : List ℕ) {r : List ℕ} → z ≡ concat k (λ j. ntt (parts 256 (take (256 * k - 0) n) j))
        → (let m = z ++ drop (256 * k - 0) n in
        r
        ≡ uv_of (parts 256 (take (256 * k - 0) m))
        (parts 256 (take (256 * k + 256 * k - 256 * k) (drop (256 * k) m)))
        (take (length m - (256 * k + 256 * k)) (drop (256 * k + 256 * k) m)))
        → r ≡ uv_pass k a t (parts 256 n) mu
    uv_of_parts z h₀ h₁ =
        let start : 256 * k - 0 ≡ 256 * k = omega arith in
        let span : 256 * k + 256 * k - 256 * k ≡ 256 * k = omega arith in
        let h : z ≡ concat k (λ j. ntt (parts 256 (take (256 * k) n) j)) = rw start at h₀ in
        let lz : length z ≡ 256 * k = length_y k n e h in
        let m = z ++ drop (256 * k) n in
        let front : take (256 * k) m ≡ z = take_at z (drop (256 * k) n) (256 * k) lz in
        let rest : drop (256 * k) m ≡ drop (256 * k) n = drop_at z (drop (256 * k) n) (256 * k) lz in
        let last : drop (256 * k + 256 * k) m ≡ drop (256 * k + 256 * k) n =
        sym (drop-drop (256 * k) (256 * k) m) ∙ ap (drop (256 * k)) rest ∙ drop-drop (256 * k) (256 * k) n in
        let long_m : length m ≡ length n =
        length-append z (drop (256 * k) n) ∙ omega (arith, length-drop (256 * k) n) in
        (rw (start, span, front, rest, last, long_m) at h₁) ∙ uv_of_noise z h
