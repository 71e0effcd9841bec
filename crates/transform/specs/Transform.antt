-- FIPS 203, section 4.3: the number-theoretic transform.
use Rattle.std.specs.Prelude.{List, [], ◌∷◌, ◌++◌, ℕ, ◌+◌, ◌-◌, ◌*◌, ◌%◌, ◌^◌, get_or, set}
use Rattle.words.specs.Iterate.{iterate}
use Rattle.words.specs.Numeral.{value}
use Rattle.words.specs.Digit.{digit}
use Rattle.words.specs.Residue.{q}
use Rattle.words.specs.Tab.{tab}
use Rattle.ring.specs.Polynomial.{minus}

-- section 4.3: BitRev7, the seven bits of i in reverse
unfoldable pub bit_rev7 : ℕ → ℕ
bit_rev7 i = value 2 (tab 7 (λ j. digit (6 - j) i))

-- the powers of the root 17 that Algorithms 9 and 10 take
unfoldable pub zeta : ℕ → ℕ
zeta i = 17 ^ bit_rev7 i % q

-- and those that Algorithm 11 takes
unfoldable pub gamma : ℕ → ℕ
gamma i = 17 ^ (2 * bit_rev7 i + 1) % q

-- ---- Algorithm 9, NTT. Layer l has 2^l blocks of 2 len coefficients, len = 2^(7 - l); block b takes zeta (2^l + b).

-- lines 8 to 10: with t = z f[j + len], f[j + len] becomes f[j] - t, and f[j] becomes f[j] + t
unfoldable pub butterfly : ℕ → ℕ → ℕ → List ℕ → List ℕ
butterfly z len j f =
    let t = z * get_or f (j + len) 0 % q in
    set (set f (j + len) (minus (get_or f j 0) t)) j ((get_or f j 0 + t) % q)

-- lines 7 to 11: the len pairs of one block
unfoldable pub block : ℕ → ℕ → ℕ → List ℕ → List ℕ
block z len start f = iterate len (λ j. butterfly z len (start + j)) f

-- lines 4 to 12: the k blocks of one layer
unfoldable pub layer : ℕ → ℕ → List ℕ → List ℕ
layer k len f = iterate k (λ b. block (zeta (k + b)) len (b * (2 * len))) f

-- lines 3 to 13: the seven layers
unfoldable pub ntt : List ℕ → List ℕ
ntt f = iterate 7 (λ l. layer (2 ^ l) (2 ^ (7 - l))) f

-- ---- Algorithm 10, the inverse. Layer l has k = 2^(6 - l) blocks, len = 2^(l + 1); block b takes zeta (2 k - 1 - b).

-- lines 8 to 10: with t = f[j], f[j] becomes t + f[j + len], and f[j + len] becomes z (f[j + len] - t)
unfoldable pub inverse_butterfly : ℕ → ℕ → ℕ → List ℕ → List ℕ
inverse_butterfly z len j f =
    set (set f j ((get_or f j 0 + get_or f (j + len) 0) % q)) (j + len)
    (z * minus (get_or f (j + len) 0) (get_or f j 0) % q)

-- lines 7 to 11
unfoldable pub inverse_block : ℕ → ℕ → ℕ → List ℕ → List ℕ
inverse_block z len start f = iterate len (λ j. inverse_butterfly z len (start + j)) f

-- lines 4 to 12
unfoldable pub inverse_layer : ℕ → ℕ → List ℕ → List ℕ
inverse_layer k len f = iterate k (λ b. inverse_block (zeta (2 * k - 1 - b)) len (b * (2 * len))) f

-- lines 3 to 14: seven layers, and 3303 is 1 / 128 modulo q
unfoldable pub inverse_ntt : List ℕ → List ℕ
inverse_ntt f = tab 256 (λ i. get_or (iterate 7 (λ l. inverse_layer (2 ^ (6 - l)) (2 ^ (l + 1))) f) i 0 * 3303 % q)

-- ---- the product of transformed polynomials, pair by pair

-- Algorithm 12, BaseCaseMultiply: c0 and c1
abbrev pub base_case_multiply : ℕ → ℕ → ℕ → ℕ → ℕ → List ℕ
base_case_multiply a0 a1 b0 b1 γ = (a0 * b0 + a1 * b1 * γ) % q ∷ (a0 * b1 + a1 * b0) % q ∷ []

-- pair i of f times g
abbrev pub pair_of : List ℕ → List ℕ → ℕ → List ℕ
pair_of f g i =
    base_case_multiply (get_or f (2 * i) 0) (get_or f (2 * i + 1) 0) (get_or g (2 * i) 0) (get_or g (2 * i + 1) 0)
    (gamma i)

-- Algorithm 11, MultiplyNTTs: the 128 pairs, one after the other
unfoldable pub multiply_ntts : List ℕ → List ℕ → List ℕ
multiply_ntts f g = iterate 128 (λ i h. h ++ pair_of f g i) []
