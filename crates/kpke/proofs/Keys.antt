-- K-PKE.KeyGen (FIPS 203, algorithm 13) from the matrix in one slice and the vectors in others: part i of each is the
-- definition's polynomial i.
use mathlib.Core.Path.{◌≡◌, ap, ◌∙◌}
use mathlib.Core.List.{List, ◌++◌}
use Prim.Native.Nat.{ℕ, ◌+◌, ◌<◌}
use Rattle.codec.specs.Bytes.{byte_encode}
use Rattle.ring.specs.Polynomial.{add}
use Rattle.transform.specs.Transform.{ntt}
use Rattle.parameters.specs.declared.Parameters.{Parameters}
use Rattle.vectors.specs.Vector.{parts, concat}
use Rattle.kpke.specs.KPke.{matrix, noise, public_polynomial, secret_vector, error_vector, ek_from, dk_from}
use Rattle.vectors.specs.VectorLaws.{concat_cong, dot_cong}
use Rattle.vectors.specs.TransformedVector.{transformed_at}
use Rattle.kpke.specs.Expanded.{places_of, Expanded}
use Rattle.kpke.proofs.Parts.{each-noise, public_at}

module _ (p : Parameters) (sigma : List ℕ) {s : List ℕ} (es : s ≡ concat p.k (λ i. ntt (noise p.eta1 sigma i)))
  where
    secret_at_lem : (i : ℕ) → i < p.k → parts 256 s i ≡ secret_vector p sigma i
    unfolding secret_vector
    secret_at_lem i h = transformed_at (each-noise p.eta1 p.k sigma) es i h

    public_polynomial_at : {rho a : List ℕ} → Expanded p.k rho a → (i : ℕ) → i < p.k
        → public_polynomial p.k (places_of p.k a) (parts 256 s) (λ j. ntt (noise p.eta1 sigma (p.k + j))) i
        ≡ public_polynomial p.k (matrix rho) (secret_vector p sigma) (error_vector p sigma) i
    unfolding public_polynomial error_vector
    public_polynomial_at {rho} {a} x i h =
        ap (λ (f : List ℕ). add f (ntt (noise p.eta1 sigma (p.k + i))))
        (dot_cong p.k (λ j k. x.at i j h k) secret_at_lem)

    pub ek-parts : {rho a t ek : List ℕ} → Expanded p.k rho a
        → t
        ≡ concat p.k
        (public_polynomial p.k (places_of p.k a) (parts 256 s) (λ j. ntt (noise p.eta1 sigma (p.k + j))))
        → ek ≡ concat p.k (λ i. byte_encode 12 (parts 256 t i)) ++ rho
        → ek ≡ ek_from p rho sigma
    unfolding ek_from
    ek-parts {rho} {a} x et ee =
        ee
        ∙ ap (λ (l : List ℕ). l ++ rho)
        (concat_cong p.k
        (λ i h.
        ap (byte_encode 12)
        (public_at p.k (places_of p.k a) (parts 256 s) (λ j. ntt (noise p.eta1 sigma (p.k + j))) et i h
        ∙ public_polynomial_at x i h)))

    pub dk-parts : {dk : List ℕ} → dk ≡ concat p.k (λ i. byte_encode 12 (parts 256 s i)) → dk ≡ dk_from p sigma
    unfolding dk_from
    dk-parts ed = ed ∙ concat_cong p.k (λ i h. ap (byte_encode 12) (secret_at_lem i h))
