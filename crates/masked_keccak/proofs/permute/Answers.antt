-- The loop is the definition's own: i rounds have drawn the masks of i rounds, and each round is lent the table.
use Prim.Native.Nat.{◌+◌, ◌*◌}
use mathlib.Core.Path.{◌≡◌}
use native.Mathlib.Omega.{arith}
use lib.ListN.{length-take, length-drop}
use Rattle.worksheet.specs.Ran.{part_words}
use Rattle.worksheet.specs.RanLoops.{loop_start, loop_turn}
use Rattle.masked_keccak.specs.MaskedKeccak.{masked_keccak_p, round_words}
use Rattle.masked_keccak.proofs.permute.Goals as goal

pub round-o-requires : goal.round-o-requires
round-o-requires c =
    let a = c.loop-i in
    record {
      inside = omega arith;
      table = a.invariant.table;
      masks = simp (length-take, length-drop) (omega arith);
    }

pub loop-i-preserved : goal.loop-i-preserved
loop-i-preserved c =
    let a = c.loop-i in
    let ws = c.args.ws.now in
    let e : round_words * a.i + round_words ≡ round_words * (a.i + 1) = omega arith in
    record {
      within = omega arith;
      table = a.invariant.table;
      ran = λ cs.
          loop_turn _ _ a.i (a.invariant.ran cs)
          (rw e at (part_words ws (round_words * a.i) round_words (c.round-o.ensures cs)));
    }

pub returns : goal.returns
unfolding masked_keccak_p
returns c cs =
    let e : c.loop-i.i ≡ 24 = omega arith in
    rw e at (c.loop-i.invariant.ran cs)

pub loop-i-init : goal.loop-i-init
loop-i-init c = record { within = omega arith; table = c.round_constants-constants.ensures; ran = λ cs. loop_start _ _ }
