-- q is odd, so rounding to the nearest, (2 a + q) / (2 q), is (a + 1664) / q; the lowest d bits of it are what is left
-- modulo 2^d.
use mathlib.Core.Path.{◌≡◌, ap, ◌∙◌}
use Prim.Native.Nat.{ℕ, ◌+◌, ◌*◌, ◌/◌, ◌%◌, ◌^◌}
use native.Mathlib.Omega.{arith}
use lib.Pow.{shl_lt, pow_mono}
use Rattle.words.specs.Residue.{q}
use Rattle.codec.specs.Compress.{compress}
use Rattle.codec.proofs.compression.compress.Goals as goal

halves : (a : ℕ) → (a + 1664) / q ≡ (2 * a + q) / (2 * q)
halves a = omega arith

pub returns : goal.returns
unfolding compress
returns c =
    let a = c.args in
    c.low.ensures
    ∙ ap (λ (n : ℕ). n % 2 ^ a.d)
    (c.quotient.ensures
    ∙ ap (λ (n : ℕ). (n + 1664) / q) (c.shifted.ensures ∙ omega arith)
    ∙ halves (2 ^ a.d * a.x))
