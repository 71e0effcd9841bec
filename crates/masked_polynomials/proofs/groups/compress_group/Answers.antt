-- Masked compression leaves the d result planes from place 13 on, and these are copied out.
use mathlib.Core.Path.{◌≡◌}
use Prim.Native.Nat.{◌+◌, ◌-◌, ◌*◌}
use native.Mathlib.Omega.{arith}
use Rattle.masked_polynomials.proofs.groups.compress_group.Goals as goal

pub returns : goal.returns
returns c cs =
    let d = c.args.d in
    let e : 3 * (d + 13) - 1 ≡ 3 * d + 38 = omega arith in
    rw c.top_planes.ensures (rw e at (c.masked_compress-e.ensures cs))
