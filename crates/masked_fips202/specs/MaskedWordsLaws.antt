-- The rates and suffixes of the two hashes are a sponge's.
use Rattle.std.specs.Prelude.{refl}
use Rattle.std.proofs.Common.{arith}
use Rattle.fips202.specs.Lent.{SpongeFits}

pub sha3_512_fits : SpongeFits 72 0x06
sha3_512_fits = record { positive = omega arith; fits = omega arith; whole = refl; short = omega arith }

pub shake256_fits : SpongeFits 136 0x1f
shake256_fits = record { positive = omega arith; fits = omega arith; whole = refl; short = omega arith }
