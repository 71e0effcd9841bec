-- The loop is the definition's chain: i carries have been made on the first i masks, and the last of them, which the
-- next turn reads, stands at place i of the two arrays.
use Prim.Native.Nat.{◌+◌, ◌-◌}
use mathlib.Core.Path.{◌≡◌, refl}
use native.Mathlib.Omega.{arith}
use lib.ListN.{length-set, get_or}
use Rattle.words.specs.Bits.{Bits}
use Rattle.worksheet.specs.Ran.{next_bits}
use Rattle.worksheet.specs.RanLoops.{chain_start, chain_turn}
use Rattle.worksheet.specs.SharedList.{shared_list}
use Rattle.worksheet.specs.SharedListLaws.{zip-set, get_d_zip, zip_one}
use Rattle.masked_adder.proofs.carry_planes.Goals as goal

-- ---- facts
pub loop-i-preserved : goal.loop-i-preserved
loop-i-preserved c =
    let l = c.loop-i in
    let i = l.i in
    let g = c.args in
    let word : Bits 64 (get_or g.ws.now i 0) =
    record { lt = omega (arith, c.type_inv.ws i) } in (
      omega arith,
      omega arith,
      simp length-set (omega arith),
      simp length-set (omega arith),
      λ cs.
          rw (zip-set l.s0 l.s1 (i + 1) _ _ (omega arith) (omega arith))
          (chain_turn _ _ i (l.invariant.4 cs) (get_d_zip (i + 1) (shared_list l.s0 l.s1) i _ (omega arith))
          (rw (
            get_d_zip g.n (shared_list g.a.s0 g.a.s1) i _ (omega arith),
            get_d_zip g.n (shared_list g.b.s0 g.b.s1) i _ (omega arith),
          )
          (next_bits 64 g.ws.now i word c.carry_step-o.ensures))),
    )

pub returns : goal.returns
returns c cs =
    let n = c.args.n in
    let e : c.loop-i.i ≡ n - 1 = omega arith in
    let f : n - 1 + 1 ≡ n = omega arith in
    rw (e, f) at (c.loop-i.invariant.4 cs)

pub loop-i-init : goal.loop-i-init
loop-i-init c = (omega arith, omega arith, refl, refl, λ cs. rw zip_one (chain_start _ _))
