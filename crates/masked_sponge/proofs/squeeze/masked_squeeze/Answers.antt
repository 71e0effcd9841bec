-- Each turn gives out a block of both shares and permutes; what is left behind the last permutation is one block at
-- most, so that the outputs hold what the program's states give.
use Prim.Native.Nat.{◌*◌}
use mathlib.Core.Path.{refl, sym}
use native.Mathlib.Omega.{arith}
use lib.ListN.{length-take, length-drop}
use Rattle.worksheet.specs.Ran.{part_words}
use Rattle.masked_keccak.specs.MaskedKeccak.{keccak_p_words}
use Rattle.masked_sponge.proofs.MaskedOutput.{squeezing_start, squeezing_turn, squeezed_ran}
use Rattle.masked_sponge.proofs.MaskedOutput.{block_lent, rest_lent}
use Rattle.masked_sponge.proofs.squeeze.masked_squeeze.Goals as goal

-- the block of a turn, and the rest behind the loop, are lent in either share
pub give-requires : goal.give-requires
give-requires g c =
    block_lent c.requires.block.fits (rw c.further-m.ensures at c.loop-i-test.true) _ c.loop-i.invariant.long0

pub give-requires-in-loop-i : goal.give-requires-in-loop-i
give-requires-in-loop-i g c =
    block_lent c.requires.block.fits (rw c.further-m.ensures at c.loop-i-test.true) _ c.loop-i.invariant.long1

pub give-requires-2 : goal.give-requires-2
give-requires-2 g c =
    let p = c.requires.block in
    rest_lent p.fits p.positive c.further-m.ensures _ c.loop-i.invariant.long0

pub give-requires-3 : goal.give-requires-3
give-requires-3 g c =
    let p = c.requires.block in
    rest_lent p.fits p.positive c.further-m.ensures _ c.loop-i.invariant.long1

pub loop-i-preserved : goal.loop-i-preserved
loop-i-preserved g c =
    let ws = c.args.ws.now in
    squeezing_turn c.loop-i.invariant (rw c.further-m.ensures at c.loop-i-test.true) c.give.ensures
    c.give-in-loop-i.ensures (λ cs.
    part_words ws (keccak_p_words * c.loop-i.i) keccak_p_words (c.permute-o.ensures cs))

pub returns : goal.returns
returns g c cs =
    squeezed_ran c.loop-i.invariant _ g.met.T.Output.gives_out c.requires.block.positive c.requires.block.whole
    c.further-m.ensures c.loop-i-test.false
    c.give-2.ensures c.give-3.ensures cs

pub loop-i-init : goal.loop-i-init
loop-i-init g c = squeezing_start refl (sym c.requires.long)

pub permute-o-requires : goal.permute-o-requires
permute-o-requires g c =
    let h = rw c.further-m.ensures at c.loop-i-test.true in
    simp (length-take, length-drop) (omega arith)
