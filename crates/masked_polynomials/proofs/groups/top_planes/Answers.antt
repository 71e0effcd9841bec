-- Dropping 13 of d + 13 planes leaves those from place 13 on, which are copied.
use Prim.Native.Nat.{◌+◌, ◌-◌}
use mathlib.Core.Path.{◌≡◌}
use native.Mathlib.Omega.{arith}
use Rattle.worksheet.specs.SharedList.{shared_list}
use Rattle.masked_polynomials.proofs.Compressed.{copied}
use Rattle.masked_polynomials.proofs.groups.top_planes.Goals as goal

pub returns : goal.returns
returns c =
    let a = c.args in
    let e : 13 + a.d - 13 ≡ a.d = omega arith in
    copied 13 a.d (shared_list a.p.s0 a.p.s1) (rw e at c.copy_from_slice.ensures.after)
    (rw e at c.copy_from_slice-2.ensures.after)
