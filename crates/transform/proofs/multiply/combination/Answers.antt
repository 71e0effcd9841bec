-- u x is reduced first, so that the sum fits 32 bits: q + 2^16 + 65535^2 at most.
use Prim.Native.Nat.{◌*◌, ◌≤◌}
use native.Mathlib.Nat.{mul-le-mul}
use native.Mathlib.Omega.{arith}
use Rattle.transform.proofs.multiply.combination.Goals as goal

second : (c : goal.After-product) → c.args.v * c.args.y ≤ 65535 * 65535
second c =
    let h : c.args.v ≤ 65535 = omega arith in
    let k : c.args.y ≤ 65535 = omega arith in
    mul-le-mul h k

pub overflow_mul-v : goal.overflow_mul-v
overflow_mul-v c = omega (arith, second c)

pub overflow_add-s-2 : goal.overflow_add-s-2
overflow_add-s-2 c = omega (arith, second c)

pub returns : goal.returns
returns c = omega (arith, c.reduce.ensures, c.product.ensures)
