-- SHAKE256 is the sponge at capacity 512 bits, rate 136, with the suffix 1111.
use Rattle.fips202.specs.Sponge.{shake256}
use Rattle.fips202.proofs.shake256.Goals as goal

pub returns : goal.returns
unfolding shake256
returns c = c.sponge.ensures
