-- Anding with 2^d - 1 keeps the lowest d bits.
use mathlib.Core.Path.{◌≡◌, ap, ◌∙◌}
use Prim.Native.Nat.{ℕ, ◌*◌, ◌-◌, ◌%◌, ◌^◌, ◌≤◌}
use native.Mathlib.Nat.{one-mul, mod-lt}
use native.Mathlib.Omega.{arith}
use lib.Bits.{bit_and, and_mask}
use lib.Pow.{shl_exact, pow_pos, pow_mono}
use Rattle.codec.proofs.bits.low.Goals as goal

power : (d : ℕ) → d ≤ 12 → 1 * 2 ^ d % 2 ^ 32 ≡ 2 ^ d
power d h = shl_exact {a = 1} 1 d 32 (omega arith) (omega arith) ∙ one-mul (2 ^ d)

masked : (acc d : ℕ) → d ≤ 12 → bit_and acc (1 * 2 ^ d % 2 ^ 32 - 1) ≡ acc % 2 ^ d
masked acc d h = ap (λ (m : ℕ). bit_and acc (m - 1)) (power d h) ∙ and_mask acc d

pub returns : goal.returns
returns c = masked c.args.acc c.args.d c.requires
