-- FIPS 202, section 3: the permutation Keccak-p[1600, 24]. A state is a list of 25 lanes of 64 bits; lane (x, y) stands
-- at x + 5 y.
use Rattle.std.specs.Prelude.{List, ℕ, ◌+◌, ◌*◌, ◌/◌, ◌%◌, eqb, get_or, set, cond}
use Rattle.words.specs.Word.{xor, and, complement, rotl}
use Rattle.words.specs.Tab.{tab}
use Rattle.words.specs.Iterate.{iterate}
use Rattle.keccak_constants.specs.RoundConstants.{constant}

-- A[x, y]
abbrev pub lane : List ℕ → ℕ → ℕ → ℕ
lane s x y = get_or s (x + 5 * y) 0

-- the state with f x y as its lane (x, y)
abbrev pub lanes : (ℕ → ℕ → ℕ) → List ℕ
lanes f = tab 25 (λ i. f (i % 5) (i / 5))

-- the place of the lane n further along the row of the lane at i
abbrev pub along : ℕ → ℕ → ℕ
along n i = (i % 5 + n) % 5 + 5 * (i / 5)

-- ---- Algorithm 1, theta

-- C[x]
abbrev pub parity : List ℕ → ℕ → ℕ
parity s x = xor (xor (xor (xor (lane s x 0) (lane s x 1)) (lane s x 2)) (lane s x 3)) (lane s x 4)

-- D[x]
unfoldable pub effect : List ℕ → ℕ → ℕ
effect s x = xor (parity s ((x + 4) % 5)) (rotl 64 (parity s ((x + 1) % 5)) 1)

unfoldable pub theta : List ℕ → List ℕ
theta s = lanes (λ x y. xor (lane s x y) (effect s x))

-- ---- Algorithm 2, rho

-- the walk starts at (1, 0), and goes from (x, y) to (y, 2 x + 3 y)
unfoldable pub walk : ℕ → ℕ
walk t = iterate t (λ _ i. i / 5 + 5 * ((2 * (i % 5) + 3 * (i / 5)) % 5)) 1

-- where the walk is at (x, y) after t steps, (t + 1) (t + 2) / 2; at (0, 0) 0
unfoldable pub offset : ℕ → ℕ → ℕ
offset x y = iterate 24 (λ t o. cond (eqb (walk t) (x + 5 * y)) ((t + 1) * (t + 2) / 2 % 64) o) 0

unfoldable pub rho : List ℕ → List ℕ
rho s = lanes (λ x y. rotl 64 (lane s x y) (offset x y))

-- ---- Algorithm 3, pi
unfoldable pub pi : List ℕ → List ℕ
pi s = lanes (λ x y. lane s ((x + 3 * y) % 5) x)

-- ---- Algorithm 4, chi
unfoldable pub chi : List ℕ → List ℕ
chi s = lanes (λ x y. xor (lane s x y) (and (complement 64 (lane s ((x + 1) % 5) y)) (lane s ((x + 2) % 5) y)))

-- ---- Algorithm 6, step 4, iota with the round's constant
unfoldable pub iota : List ℕ → ℕ → List ℕ
iota s k = set s 0 (xor (lane s 0 0) k)

-- ---- Algorithm 7
unfoldable pub round : ℕ → List ℕ → List ℕ
round i s = iota (chi (pi (rho (theta s)))) (constant i)

unfoldable pub keccak_p : List ℕ → List ℕ
keccak_p s = iterate 24 round s
