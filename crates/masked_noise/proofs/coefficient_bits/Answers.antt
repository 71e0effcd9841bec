-- A polynomial's 256 coefficients have 2 eta bits each, so that both shares have those of each.
use Prim.Native.Nat.{ℕ, ◌+◌, ◌*◌, ◌≤◌}
use mathlib.Core.Path.{◌≡◌}
use mathlib.Core.List.{List}
use native.Mathlib.Omega.{arith}
use lib.ListN.{length}
use Rattle.words.specs.Part.{part_fits}
use Rattle.masked_noise.specs.Lent.{BitsLent, CoefficientBits}
use Rattle.worksheet.specs.SharedList.{SharedList}
use Rattle.masked_noise.proofs.coefficient_bits.Goals as goal

-- the coefficient's bits are among the polynomial's
among : {eta i : ℕ} {o : SharedList} → CoefficientBits eta i o → (let n = 2 * eta in n * i + n ≤ n * 256)
among {eta} g = part_fits (2 * eta) g.number

bits-lent : {eta i : ℕ} {w : SharedList} (g : CoefficientBits eta i w) (o : List ℕ) → length o ≡ 8 * eta
    → (let n = 2 * eta in BitsLent (n * i) n o)
bits-lent g o e =
    let w = g.width in
    record { some = omega (arith, w.least); most = omega (arith, w.most); within = omega (arith, among g) }

pub overflow_mul-k : goal.overflow_mul-k
overflow_mul-k c = omega (arith, among c.requires)

pub bits_at-requires : goal.bits_at-requires
bits_at-requires c = bits-lent c.requires _ c.requires.input.long0

pub bits_at-requires-2 : goal.bits_at-requires-2
bits_at-requires-2 c = bits-lent c.requires _ c.requires.input.long1

pub returns : goal.returns
returns c = record { bits0 = c.bits_at.ensures; bits1 = c.bits_at-2.ensures }
