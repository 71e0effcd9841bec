-- What is absorbed is squeezed: the two equations compose to the sponge's.
use Rattle.fips202.specs.Sponge.{sponge}
use Rattle.fips202.proofs.sponge.Goals as goal

pub returns : goal.returns
unfolding sponge
returns c = cc
