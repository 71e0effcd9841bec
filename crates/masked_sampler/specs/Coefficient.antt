-- Bit to coefficient, and the sampler (document 01, The gadgets).
use Rattle.std.specs.Prelude.{cond, List, ℕ, ◌+◌, ◌-◌, ◌*◌, ◌%◌, eqb, ltb, get_or}
use Rattle.words.specs.Word.{xor}
use Rattle.words.specs.Residue.{q}
use Rattle.worksheet.specs.Shares.{Shares}
use Rattle.worksheet.specs.Prog.{Prog, coeff, ret, ◌>>=◌, mask, entry, loop, times}
use Rattle.worksheet.specs.Sharing.{shares, none}

-- T[i]
abbrev pub table_value : ℕ → ℕ → ℕ → ℕ → ℕ
table_value i b1 w r = (xor i b1 * w + r) % q

unfoldable pub bit_to_coeff : ℕ → Shares → Prog Shares
bit_to_coeff w b = do
  r ← mask coeff
  t0 ← entry (table_value 0 b.s1 w r)
  t1 ← entry (table_value 1 b.s1 w r)
  a0 ← entry (cond (eqb b.s0 0) t0 t1)
  a1 ← entry ((q - r) % q)
  ret (shares a0 a1)

-- its mask coefficients
abbrev pub bit_to_coeff_coeffs : ℕ
bit_to_coeff_coeffs = 1

-- n + 1 numbers added modulo q from the left, n sums
unfoldable pub sums : ℕ → (ℕ → ℕ) → Prog ℕ
sums n x = loop n (λ j s. entry ((s + x (j + 1)) % q)) (x 0)

-- the standard's binomial: eta bits less eta bits
abbrev pub weight : ℕ → ℕ → ℕ
weight eta j = cond (ltb j eta) 1 (q - 1)

-- the bits as coefficients
abbrev pub conversions : ℕ → (ℕ → Shares) → Prog (List Shares)
conversions eta b = times (2 * eta) (λ j. bit_to_coeff (weight eta j) (b j))

-- 2 eta conversions, then the sums of their shares 0, then those of their shares 1
unfoldable pub sampler : ℕ → (ℕ → Shares) → Prog Shares
sampler eta b = do
  z ← conversions eta b
  s0 ← sums (2 * eta - 1) (λ j. (get_or z j none).s0)
  s1 ← sums (2 * eta - 1) (λ j. (get_or z j none).s1)
  ret (shares s0 s1)

-- its mask coefficients: one for a conversion
abbrev pub sampler_coeffs : ℕ → ℕ
sampler_coeffs eta = 2 * eta
