-- And with 2^(d+13) - 1 is the remainder by 2^(d+13), so that what is entered is the definition's number.
use mathlib.Core.Path.{◌≡◌, ◌∙◌}
use Prim.Native.Nat.{◌+◌, ◌-◌}
use lib.Bits.{bit_and, and_mask}
use lib.Pow.{pow_pos}
use Rattle.masked_compression.specs.Compression.{fixed_point}
use Rattle.masked_compression.proofs.enter_fixed_point.Goals as goal

pub returns : goal.returns
unfolding fixed_point
returns c =
    let a = c.args in
    let n = c.fixed_point.result + a.h in
    let e : bit_and n (c.scale.result - 1) ≡ fixed_point a.d a.h a.x =
    rw c.scale.ensures (and_mask n (a.d + 13) ∙ rw c.fixed_point.ensures.0) in
    rw (← e) c.enter.ensures

pub overflow_sub-v : goal.overflow_sub-v
overflow_sub-v c = rw c.scale.ensures (pow_pos (c.args.d + 13))
