-- Turn i takes in block i of both shares with the next masks, as the program's loop does; block i lies within the
-- input, since i is below its length divided by the rate.
use Prim.Native.Nat.{◌+◌, ◌*◌, ◌/◌}
use mathlib.Core.Path.{◌≡◌}
use native.Mathlib.Nat.{zero-mul, suc-mul}
use native.Mathlib.Numerals.{add-one}
use native.Mathlib.Omega.{arith}
use lib.ListN.{length, length-take, length-drop}
use Rattle.words.specs.Part.{part_rest}
use Rattle.worksheet.specs.Ran.{part_words}
use Rattle.worksheet.specs.RanLoops.{loop_start, loop_turn}
use Rattle.masked_keccak.specs.MaskedKeccak.{keccak_p_words}
use Rattle.masked_sponge.proofs.MaskedBlocks.{block_within}
use Rattle.masked_sponge.proofs.absorb.whole_blocks.Goals as goal

pub take_in-o-requires : goal.take_in-o-requires
take_in-o-requires c =
    let w = block_within _ _ _ c.loop-i-test.true in (
      record {
        fits = c.requires.fits;
        whole = c.requires.whole;
        block0 = simp (length-take, length-drop) (omega arith);
        block1 = simp (length-take, length-drop) (omega arith);
      },
      simp (length-take, length-drop) (omega arith),
    )

pub loop-i-preserved : goal.loop-i-preserved
loop-i-preserved c =
    let a = c.args in
    let i = c.loop-i.i in
    let e : keccak_p_words * i + keccak_p_words ≡ keccak_p_words * (i + 1) = omega arith in (
      omega arith,
      rw (add-one i, suc-mul i a.rate) (block_within _ _ _ c.loop-i-test.true),
      λ cs.
          loop_turn _ _ i (c.loop-i.invariant.2 cs)
          (rw (part_rest (i * a.rate) a.in0.now, part_rest (i * a.rate) a.in1.now, e)
          at (part_words a.ws.now (keccak_p_words * i) keccak_p_words (c.take_in-o.ensures cs))),
    )

pub returns : goal.returns
returns c cs =
    let e : c.loop-i.i ≡ length c.args.in0.now / c.args.rate = omega arith in
    rw e at (c.loop-i.invariant.2 cs)

pub loop-i-init : goal.loop-i-init
loop-i-init c = (omega arith, omega (arith, zero-mul c.args.rate), λ cs. loop_start _ _)
