-- A block is taken in while a whole one is left; the rest with its padding is the padded message's last block.
use Rattle.fips202.proofs.Absorbing.{Absorbing}
use Rattle.fips202.proofs.absorb.absorb.Given as goal

-- what the iterator has left is still to be taken in
abbrev pub invariant-loop-block : goal.invariant-loop-block
invariant-loop-block l = Absorbing l.rate l.m l.block-iterator.size l.block-iterator.rest.now l.t.lanes
