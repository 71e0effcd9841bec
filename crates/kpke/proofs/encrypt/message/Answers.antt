-- ByteDecode_1 gives bits, which is what Decompress_1 asks for, and the two together are mu.
use borrow.Author.Rules.{rules}
use native.Mathlib.Omega.{arith}
use Rattle.codec.specs.BytesLaws.{below-byte_decode}
use Rattle.kpke.proofs.encrypt.message.Goals as goal

pub decompress_all-requires : goal.decompress_all-requires
decompress_all-requires c = (omega arith, rw c.byte_decode.ensures (search (rules, below-byte_decode 1)))
