-- The four calls are the definition's four steps: a's planes draw n masks, b's the next n, the carries the n - 1 after
-- these.
use Prim.Native.Nat.{◌+◌, ◌-◌}
use mathlib.Core.Path.{◌≡◌}
use native.Mathlib.Omega.{arith}
use Rattle.worksheet.specs.Ran.{bind, part_words}
use Rattle.masked_adder.specs.Adder.{adder, adder_words}
use Rattle.masked_adder.proofs.adder.Goals as goal

pub returns : goal.returns
unfolding adder
returns c cs =
    let g = c.args in
    let ws = g.ws.now in
    let n = g.n in
    let e : n + n + (n - 1) ≡ adder_words n = omega arith in
    bind _ (c.mask_planes-a.ensures cs)
    (bind _ (part_words ws n n (c.mask_planes-b.ensures cs))
    (bind _ (rw e at (part_words ws (n + n) (n - 1) (c.carry_planes-c.ensures cs)))
    (c.sum_planes.ensures _ cs)))
