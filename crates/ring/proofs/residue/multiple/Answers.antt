-- Shoup's estimate is the product's quotient or one less, so what is left is below 2 q, and one subtraction of q
-- reduces it.
use Rattle.std.proofs.Common.{arith}
use Rattle.ring.proofs.Shoup.{shoup}
use Rattle.ring.proofs.residue.multiple.Goals as goal

pub low_difference-requires : goal.low_difference-requires
low_difference-requires c =
    let h = shoup c.args.z c.args.w c.args.x c.requires.quotient (omega arith) in
    (h.0, omega (arith, h.1))

pub reduce_once-requires : goal.reduce_once-requires
reduce_once-requires c =
    let a = c.args in
    omega (arith, (shoup a.z a.w a.x c.requires.quotient (omega arith)).1)
