-- The first lanes take a lane of the block each; the block has no more, so that the other lanes take zeros.
use borrow.Author.Rules.{rules}
use Rattle.words.specs.Word.{xor}
use Rattle.fips202.proofs.Mixing.{mixing_start, mixing_turn, mixing_end}
use Rattle.fips202.proofs.absorb.mix_block.Goals as goal

pub loop-j-init : goal.loop-j-init
loop-j-init c =
    let chunks = c.chunks_exact.ensures in
    rw (
      c.into_iter-j-iterator.ensures.into_iter_gives,
      c.enumerate-j-items.ensures.source,
      c.enumerate-j-items.ensures.count,
    )
    (mixing_start chunks.size chunks.rest (search rules))

pub loop-j-preserved : goal.loop-j-preserved
unfolding xor
loop-j-preserved c =
    let steps = c.in-Some.ensures.steps in
    let chunk = steps.0 in
    rw steps.1
    (mixing_turn c.loop-j.invariant c.in-Some.lane.now c.requires.0 steps.2 chunk.0 chunk.1.0 chunk.1.1 c.load.ensures)

pub returns : goal.returns
returns c = mixing_end c.loop-j.invariant c.requires.1 c.in-None.ensures.steps.0.1.0
