-- Stage 6 on one share (FIPS 203, algorithm 14, lines 19 and 21).
use Rattle.std.specs.Prelude.{List, ◌++◌, ℕ, ◌+◌, ◌*◌}
use Rattle.ring.specs.Polynomial.{add}
use Rattle.transform.specs.Transform.{ntt, inverse_ntt}
use Rattle.vectors.specs.Vector.{concat, dot}

-- row i of u, for the matrix a, the transformed y and row i of e1
unfoldable pub u_pass : ℕ → (ℕ → ℕ → List ℕ) → (ℕ → List ℕ) → List ℕ → ℕ → List ℕ
u_pass k a y e1 i = add (inverse_ntt (dot k (λ j. a j i) y)) e1

-- v, for the public vector t, the transformed y, e2 and mu
unfoldable pub v_pass : ℕ → (ℕ → List ℕ) → (ℕ → List ℕ) → List ℕ → List ℕ → List ℕ
v_pass k t y e2 mu = add (add (inverse_ntt (dot k t y)) e2) mu

-- u, then v, where n are the noise polynomials: y, e1 and e2
unfoldable pub uv_pass : ℕ → (ℕ → ℕ → List ℕ) → (ℕ → List ℕ) → (ℕ → List ℕ) → List ℕ → List ℕ
uv_pass k a t n mu =
    concat k (λ i. u_pass k a (λ j. ntt (n j)) (n (k + i)) i) ++ v_pass k t (λ j. ntt (n j)) (n (2 * k)) mu
