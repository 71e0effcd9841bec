-- Decoded numbers are below 2^d, as decompression asks, and decompressing them one by one is the definition.
use mathlib.Core.Path.{ap, ◌∙◌}
use mathlib.Core.List.{map}
use native.Mathlib.Omega.{arith}
use Rattle.codec.specs.BytesLaws.{below-byte_decode}
use Rattle.codec.specs.Compress.{decompress}
use Rattle.masked_decryption.proofs.decoded.Goals as goal

pub decompress_all-requires : goal.decompress_all-requires
decompress_all-requires c =
    let a = c.args in
    (omega arith, rw c.byte_decode.ensures (below-byte_decode a.d a.b.now (omega arith)))

pub returns : goal.returns
returns c =
    c.decompress_all.ensures ∙ ap (map (decompress c.args.d)) c.byte_decode.ensures
