-- t is d || k, and the output has 64 bytes, the digest's length, so that SHA3-512 writes t's digest.
use borrow.Author.Rules.{rules}
use Rattle.fips202.specs.Sponge.{sha3_512}
use Rattle.hash_functions.proofs.Digest.{carried_out, digest_of}
use Rattle.hash_functions.proofs.hash_g_seed.Goals as goal

pub returns : goal.returns
returns c = search (rules, digest_of sha3_512 64)

pub unwrap-requires : goal.unwrap-requires
unwrap-requires c = search (rules, carried_out c.sha3_512.result)
