-- SHAKE128 is the sponge at capacity 256 bits, rate 168, with the suffix 1111.
use Rattle.fips202.specs.Sponge.{shake128}
use Rattle.fips202.proofs.shake128.Goals as goal

pub returns : goal.returns
unfolding shake128
returns c = c.sponge.ensures
