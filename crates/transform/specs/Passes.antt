-- What the code's transform and its inverse share: the pairs of a block and the blocks of a layer, whatever becomes of
-- a pair and whichever root a block takes. Nothing here need be believed: `ntt` and `inverse_ntt` promise Transform's.
use Rattle.std.specs.Prelude.{List, ℕ, ◌+◌, ◌*◌}
use Rattle.words.specs.Iterate.{iterate}
use Rattle.transform.specs.Transform.{zeta}

-- the len pairs of one block, with the root z
abbrev pub pairs : (ℕ → ℕ → ℕ → List ℕ → List ℕ) → ℕ → ℕ → ℕ → List ℕ → List ℕ
pairs pair z len start f = iterate len (λ j. pair z len (start + j)) f

-- the k blocks of one layer, block b with entry k b of the roots' table
abbrev pub blocks : (ℕ → ℕ → ℕ → List ℕ → List ℕ) → (ℕ → ℕ → ℕ) → ℕ → ℕ → List ℕ → List ℕ
blocks pair entry k len f = iterate k (λ b. pairs pair (zeta (entry k b)) len (b * (2 * len))) f
