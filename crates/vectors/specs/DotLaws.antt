-- The sum of products of two vectors is linear in each of them.
use Rattle.std.specs.Prelude.{◌≡◌, List, ℕ, zero, suc, ◌<◌, ◌≤◌, length, replicate}
use Rattle.std.proofs.Common.{sym, ap₂, ◌∙◌, arith, ext_get_or}
use Rattle.std.proofs.lemmas.List.{length-replicate, get_or-replicate}
use Rattle.words.specs.Iterate.{iterate}
use Rattle.ring.specs.Polynomial.{add}
use Rattle.ring.specs.Sum.{length-add, get_or_add_lt, add_swap}
use Rattle.transform.specs.Transform.{multiply_ntts}
use Rattle.transform.specs.MultiplyLaws.{length-multiply_ntts, multiply_ntts-add_left, multiply_ntts-add_right}
use Rattle.vectors.specs.Vector.{dot}

add_zeros : (n : ℕ) → add (replicate n 0) (replicate n 0) ≡ replicate n 0
add_zeros n =
    ext_get_or 0 _ _ (length-add (replicate n 0) (replicate n 0))
    (λ i h.
    let l : i < n = omega (arith, length-add (replicate n 0) (replicate n 0), length-replicate {A = ℕ} n 0) in
    get_or_add_lt (replicate n 0) (replicate n 0) i (omega (arith, length-replicate {A = ℕ} n 0))
    ∙ rw (get_or-replicate {A = ℕ} n i 0 0 l))

pub length-dot : (k : ℕ) (f g : ℕ → List ℕ) → length (dot k f g) ≡ 256
unfolding dot iterate
length-dot zero f g = length-replicate {A = ℕ} 256 0
length-dot (suc k) f g = length-add (dot k f g) (multiply_ntts (f k) (g k)) ∙ length-dot k f g

pub dot-add_left : (k : ℕ) (f g h : ℕ → List ℕ) → ((j : ℕ) → j < k → length (f j) ≡ length (g j))
    → dot k (λ j. add (f j) (g j)) h ≡ add (dot k f h) (dot k g h)
unfolding dot iterate
dot-add_left zero f g h e = sym (add_zeros 256)
dot-add_left (suc k) f g h e =
    ap₂ add (dot-add_left k f g h (λ j l. e j (omega arith)))
    (multiply_ntts-add_left (f k) (g k) (h k) (e k (omega arith)))
    ∙ add_swap (dot k f h) (dot k g h) (multiply_ntts (f k) (h k)) (multiply_ntts (g k) (h k))
    (length-dot k f h ∙ sym (length-dot k g h))
    (length-multiply_ntts (f k) (h k) ∙ sym (length-multiply_ntts (g k) (h k)))

pub dot-add_right : (k : ℕ) (f g h : ℕ → List ℕ) → ((j : ℕ) → j < k → length (f j) ≤ 256)
    → ((j : ℕ) → j < k → length (g j) ≡ length (h j))
    → dot k f (λ j. add (g j) (h j)) ≡ add (dot k f g) (dot k f h)
unfolding dot iterate
dot-add_right zero f g h l e = sym (add_zeros 256)
dot-add_right (suc k) f g h l e =
    ap₂ add (dot-add_right k f g h (λ j n. l j (omega arith)) (λ j n. e j (omega arith)))
    (multiply_ntts-add_right (f k) (g k) (h k) (e k (omega arith)))
    ∙ add_swap (dot k f g) (dot k f h) (multiply_ntts (f k) (g k)) (multiply_ntts (f k) (h k))
    (length-dot k f g ∙ sym (length-dot k f h))
    (length-multiply_ntts (f k) (g k) ∙ sym (length-multiply_ntts (f k) (h k)))
