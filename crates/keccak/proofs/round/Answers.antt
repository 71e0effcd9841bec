-- The five calls are the five step mappings in their order, each by its contract, where k is the round's constant.
use Rattle.keccak.specs.KeccakP.{round}
use Rattle.keccak.proofs.round.Goals as goal

pub returns : goal.returns
unfolding round
returns c i e = cc
