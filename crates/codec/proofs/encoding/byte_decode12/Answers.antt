-- The definition decodes 12 bits each and takes every number modulo q: the two calls are these two steps.
use Rattle.std.proofs.Common.{rules}
use Rattle.codec.specs.Bytes.{byte_decode12}
use Rattle.codec.proofs.encoding.byte_decode12.Goals as goal

pub returns : goal.returns
unfolding byte_decode12
returns c = search rules
