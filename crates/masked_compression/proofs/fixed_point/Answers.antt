-- 84552411148 is 2^48 / q rounded up, and so near to it that for x below q both quotients are the same.
use Prim.Native.Nat.{◌+◌, ◌*◌, ◌-◌}
use native.Mathlib.Omega.{arith}
use lib.Pow.{shr_le}
use Rattle.masked_compression.proofs.FixedPoint.{estimate}
use Rattle.masked_compression.proofs.fixed_point.Goals as goal

pub returns : goal.returns
returns c =
    let a = c.args in (
      estimate (a.d + 13) (35 - a.d) a.x (omega arith) (omega arith) (omega arith),
      omega (arith, shr_le (a.x * 84552411148) (35 - a.d)),
    )
