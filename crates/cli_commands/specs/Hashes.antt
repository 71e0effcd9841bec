-- The hashes that the program prints.
use Rattle.std.specs.Prelude.{List, ℕ, length}
use Rattle.refusals.specs.Refusals.{number, after}
use Rattle.fips202.specs.Calls.{sized_answer}
use Rattle.fips202.specs.Sponge.{sha3_256, sha3_512, shake128, shake256}
use Rattle.cli_commands.specs.declared.hashes.Hash.{Hash}
use Rattle.cli_commands.specs.declared.hashes.Hash.TheVariants.{Digest256, Digest512, Shake128, Shake256}

-- what a buffer that held out holds after the hash of m
abbrev pub hashed : Hash → List ℕ → List ℕ → List ℕ
hashed Digest256 m out = after (number (sized_answer 32 out)) (sha3_256 m) out
hashed Digest512 m out = after (number (sized_answer 64 out)) (sha3_512 m) out
hashed Shake128 m out = shake128 m (length out)
hashed Shake256 m out = shake256 m (length out)
