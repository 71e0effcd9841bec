-- The xor of two bits is a bit, so that its product with the weight has 16 bits, and the sum with the mask 17.
use Prim.Native.Nat.{ℕ, ◌*◌, ◌<◌, ◌≤◌}
use native.Mathlib.Nat.{mul-le-mul}
use native.Mathlib.Omega.{arith}
use lib.Bits.{bit_xor, xor_lt}
use Rattle.words.specs.Word.{xor}
use Rattle.masked_sampler.proofs.coefficient.enter_table.Goals as goal

-- a bit times a number of 16 bits
bit-mul : (i b w : ℕ) → i < 2 → b < 2 → w < 65536 → (bit_xor i b < 2) × (bit_xor i b * w ≤ 65535)
bit-mul i b w h g l =
    let x = xor_lt 1 i b h g in
    let y : bit_xor i b ≤ 1 = omega arith in
    let z : w ≤ 65535 = omega arith in
    let m = mul-le-mul y z in
    (x, omega arith)

pub returns : goal.returns
unfolding xor
returns c = c.enter_reduced.ensures

pub overflow_cast-i : goal.overflow_cast-i
overflow_cast-i c = omega (arith, bit-mul c.args.i c.args.b1 c.args.w (omega arith) (omega arith) (omega arith))

pub overflow_mul-i : goal.overflow_mul-i
overflow_mul-i c = omega (arith, bit-mul c.args.i c.args.b1 c.args.w (omega arith) (omega arith) (omega arith))

pub overflow_add-i : goal.overflow_add-i
overflow_add-i c = omega (arith, bit-mul c.args.i c.args.b1 c.args.w (omega arith) (omega arith) (omega arith))

pub enter_reduced-requires : goal.enter_reduced-requires
enter_reduced-requires c = omega (arith, bit-mul c.args.i c.args.b1 c.args.w (omega arith) (omega arith) (omega arith))
