-- FIPS 203, section 4.2.2: SampleNTT and SamplePolyCBD.
use Rattle.std.specs.Prelude.{List, [], ◌∷◌, ◌++◌, Bool, cond, ℕ, zero, suc, ◌+◌, ◌*◌, ◌/◌, ◌%◌, leb, ltb, length}
use Rattle.std.specs.Prelude.{get_or, take, drop}
use Rattle.words.specs.Residue.{q}
use Rattle.words.specs.Tab.{tab}
use Rattle.codec.specs.Bytes.{bits_of}
use Rattle.ring.specs.Polynomial.{minus}

-- ---- Algorithm 7, SampleNTT, on a stream of n groups of three bytes

-- lines 6, 7: the two numbers of group i
abbrev pub d₁ : List ℕ → ℕ → ℕ
d₁ s i = get_or s (3 * i) 0 + 256 * (get_or s (3 * i + 1) 0 % 16)

abbrev pub d₂ : List ℕ → ℕ → ℕ
d₂ s i = get_or s (3 * i + 1) 0 / 16 + 16 * get_or s (3 * i + 2) 0

-- lines 8, 12: x where it is below q
abbrev pub kept : ℕ → List ℕ
kept x = cond (ltb x q) (x ∷ []) []

-- lines 8 to 15: the numbers below q of the first n groups, in order
unfoldable pub accepted : ℕ → List ℕ → List ℕ
accepted zero s = []
accepted (suc n) s = accepted n s ++ (kept (d₁ s n) ++ kept (d₂ s n))

-- 256 coefficients; document 01 lends 840 bytes, 280 groups, and refuses a stream that yields fewer
unfoldable pub sample_ntt : List ℕ → List ℕ
sample_ntt s = take 256 (accepted 280 s)

abbrev pub full : List ℕ → Bool
full s = leb 256 (length (accepted 280 s))

-- ---- Algorithm 8, SamplePolyCBD_eta

-- lines 3, 4: the sum of some bits
unfoldable pub sum : List ℕ → ℕ
sum [] = 0
sum (b ∷ l) = b + sum l

-- of the 2 eta bits of coefficient i: the sum of the first eta less that of the others
unfoldable pub sample_poly_cbd : ℕ → List ℕ → List ℕ
sample_poly_cbd eta bytes =
    let b = bits_of 8 bytes in
    tab 256 (λ i. minus (sum (take eta (drop (2 * i * eta) b))) (sum (take eta (drop (2 * i * eta + eta) b))))
