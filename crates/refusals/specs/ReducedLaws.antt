-- The test of coefficients holds of lists below q alone.
use Rattle.std.specs.Prelude.{◌≡◌, refl, Bool, true, ◌&&◌, List, [], ◌∷◌, ℕ, ltb}
use Rattle.std.proofs.Common.{ap₂, arith, lt-ltb, ltb-true}
use Rattle.words.specs.Residue.{q}
use Rattle.words.specs.Bounded.{Below}
use Rattle.words.specs.BoundedLaws.{below_nil, below_cons, below_head, below_tail}
use Rattle.refusals.specs.SameLaws.{and_left, and_right}
use Rattle.refusals.specs.Reduced.{reduced}

pub reduced-below : (l : List ℕ) → reduced l ≡ true → Below q l
unfolding reduced
reduced-below [] h = below_nil (omega arith)
reduced-below (x ∷ l) h =
    below_cons (ltb-true x q (and_left (ltb x q) (reduced l) h)) (reduced-below l (and_right (ltb x q) (reduced l) h))

pub below-reduced : (l : List ℕ) → Below q l → reduced l ≡ true
unfolding reduced
below-reduced [] b = refl
below-reduced (x ∷ l) b = ap₂ (λ (c d : Bool). c && d) (lt-ltb x q (below_head b)) (below-reduced l (below_tail b))
