-- A block is taken in while a whole one is left; the rest with its padding is the padded message's last block.
use mathlib.Core.Path.{ap, ◌∙◌}
use Rattle.keccak.specs.KeccakP.{keccak_p}
use Rattle.fips202.proofs.Absorbing.{absorbing_start, absorbing_turn, absorbing_end}
use Rattle.fips202.proofs.absorb.absorb.Goals as goal

pub loop-block-init : goal.loop-block-init
loop-block-init c =
    let blocks = c.chunks_exact-blocks.ensures in
    rw c.into_iter-block-iterator.ensures.into_iter_gives (absorbing_start blocks.size blocks.rest)

pub loop-block-preserved : goal.loop-block-preserved
loop-block-preserved c =
    let steps = c.in-Some.ensures.steps in
    absorbing_turn c.loop-block.invariant c.in-Some.block.now steps.0 steps.1.0 steps.1.1
    (c.permute-t.ensures ∙ ap keccak_p c.mix_block.ensures)

pub returns : goal.returns
returns c =
    absorbing_end c.loop-block.invariant c.args.suffix c.remainder-rest.result.now c.in-None.ensures.steps.1.0
    (c.remainder-rest.ensures ∙ c.chunks_exact-blocks.ensures.remainder)
    c.last_block-last.ensures
    (c.permute.ensures ∙ ap keccak_p c.mix_block-2.ensures)
