-- Masked compression (document 01, The gadgets: Fixed point and Adder).
use Rattle.std.specs.Prelude.{List, ℕ, ◌+◌, ◌*◌, ◌/◌, ◌%◌, ◌^◌, get_or, drop}
use Rattle.words.specs.Plane.{plane}
use Rattle.words.specs.Residue.{q}
use Rattle.worksheet.specs.Shares.{Shares}
use Rattle.worksheet.specs.Prog.{Prog, ret, ◌>>=◌, entry, times}
use Rattle.masked_adder.specs.Adder.{adder, adder_words}

-- floor(2^(d+13) x / q) plus h, modulo 2^(d+13): fixed point with 13 fraction bits
unfoldable pub fixed_point : ℕ → ℕ → ℕ → ℕ
fixed_point d h x = (2 ^ (d + 13) * x / q + h) % 2 ^ (d + 13)

-- of one share of 64 coefficients
abbrev pub fixed_points : ℕ → ℕ → (ℕ → ℕ) → Prog (List ℕ)
fixed_points d h x = times 64 (λ i. entry (fixed_point d h (x i)))

-- 64 coefficients: their values of share 0, those of share 1, to which 4096 is added, and the adder; the top d planes
-- are the result
unfoldable pub masked_compress : ℕ → (ℕ → Shares) → Prog (List Shares)
masked_compress d x = do
  a ← fixed_points d 0 (λ i. (x i).s0)
  b ← fixed_points d 4096 (λ i. (x i).s1)
  s ← adder (d + 13) (plane 64 (λ i. get_or a i 0)) (plane 64 (λ i. get_or b i 0))
  ret (drop 13 s)

-- its mask words
abbrev pub compress_words : ℕ → ℕ
compress_words d = adder_words (d + 13)
