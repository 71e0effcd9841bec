-- SHA3-256 is the general digest at 32 bytes: capacity 512 bits, rate 136.
use Rattle.fips202.specs.Sponge.{sha3_256}
use Rattle.fips202.proofs.sha3_256.Goals as goal

pub returns : goal.returns
unfolding sha3_256
returns c = c.sha3.ensures
