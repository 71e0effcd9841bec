-- SHAKE256 on two shares is the general hash at rate 136 with the suffix 1111.
use Rattle.masked_fips202.specs.MaskedCalls.{masked_shake256}
use Rattle.masked_fips202.proofs.masked_hash.masked_shake256.Goals as goal

pub returns : goal.returns
unfolding masked_shake256
returns c =
    c.masked_hash.ensures
