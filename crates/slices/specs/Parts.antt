-- The parts of a list (FIPS 203, section 2.4.6): a vector is one list with its polynomials one after the other.
use Rattle.std.specs.Prelude.{List, [], ◌++◌, ℕ, zero, suc, ◌*◌, take, drop}

module _ {A : Type 0} where
  -- the k parts of n elements of a list
  abbrev pub parts : ℕ → List A → ℕ → List A
  parts n l i = take n (drop (n * i) l)

  -- f 0, f 1, .., f (k - 1), one after the other
  unfoldable pub concat : ℕ → (ℕ → List A) → List A
  concat zero f = []
  concat (suc k) f = concat k f ++ f k
