-- FIPS 203, sections 2.4.4 to 2.4.6: polynomials modulo q, as lists of coefficients; sums and differences are 2.4.5.
use Rattle.std.specs.Prelude.{ℕ, ◌+◌, ◌-◌, ◌*◌, ◌%◌, List, length, slice_index}
use Rattle.words.specs.Residue.{q}
use Rattle.words.specs.Tab.{tab}

-- x - y modulo q
abbrev pub minus : ℕ → ℕ → ℕ
minus x y = (x + (q - 1) * y) % q

-- section 2.4.5
unfoldable pub add : List ℕ → List ℕ → List ℕ
add f g = tab (length f) (λ i. (slice_index f i + slice_index g i) % q)

unfoldable pub sub : List ℕ → List ℕ → List ℕ
sub f g = tab (length f) (λ i. minus (slice_index f i) (slice_index g i))
