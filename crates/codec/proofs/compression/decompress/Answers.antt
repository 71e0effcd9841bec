-- The numerator 2 q y + 2^d is shifted by d + 1, which divides it by 2 2^d; the result is below q, so 16 bits hold it.
use mathlib.Core.Path.{◌≡◌, ap₂, ◌∙◌}
use Prim.Native.Nat.{ℕ, ◌/◌}
use native.Mathlib.Omega.{arith}
use lib.Pow.{pow_mono, pow-add}
use Rattle.codec.specs.Compress.{decompress}
use Rattle.codec.specs.CompressLaws.{decompress_lt}
use Rattle.codec.proofs.compression.decompress.Goals as goal

is : (c : goal.After-high) → c.high.result ≡ decompress c.args.d c.args.y
unfolding decompress
is c =
    c.high.ensures
    ∙ ap₂ (λ (m n : ℕ). m / n)
    (omega (arith, c.wide16.ensures, c.shifted.ensures))
    (pow-add 2 c.args.d 1 ∙ omega arith)

pub returns : goal.returns
returns = is
