-- The first lanes take a lane of the block each; the block has no more, so that the other lanes take zeros.
use Rattle.fips202.proofs.Mixing.{Mixing}
use Rattle.fips202.proofs.absorb.mix_block.Given as goal

-- what the iterator has left is still to be mixed in
abbrev pub invariant-loop-j : goal.invariant-loop-j
invariant-loop-j l =
    let i = l.j-iterator in
    Mixing l.block l.initial.t.lanes i.count i.iter.size i.iter.rest.now l.t.lanes
