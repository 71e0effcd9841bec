-- The output has 32 bytes, the digest's length, so that SHA3-256 writes it.
use borrow.Author.Rules.{rules}
use Rattle.fips202.specs.Sponge.{sha3_256}
use Rattle.hash_functions.proofs.Digest.{carried_out, digest_of}
use Rattle.hash_functions.proofs.hash_h.Goals as goal

pub returns : goal.returns
returns c = search (rules, digest_of sha3_256 32)

pub unwrap-requires : goal.unwrap-requires
unwrap-requires c = search (rules, carried_out c.sha3_256.result)
