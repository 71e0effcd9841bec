-- SHA3-512 is the general digest at 64 bytes: capacity 1024 bits, rate 72.
use Rattle.fips202.specs.Sponge.{sha3_512}
use Rattle.fips202.proofs.sha3_512.Goals as goal

pub returns : goal.returns
unfolding sha3_512
returns c = c.sha3.ensures
