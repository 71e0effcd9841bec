-- Compressed coefficients fit their depth, so that they can be encoded: c1 fills the first n bytes of ct, and c2 the
-- others.
use mathlib.Core.Path.{ap, ◌∙◌}
use mathlib.Core.List.{map}
use Prim.Native.Nat.{◌*◌}
use native.Mathlib.Omega.{arith}
use Rattle.codec.specs.Bytes.{byte_encode}
use Rattle.codec.specs.BytesLaws.{length-byte_encode}
use Rattle.codec.specs.Compress.{compress}
use Rattle.kpke.proofs.Encoded.{below_compressed, encoded_compressed, length_encoded}
use Rattle.words.specs.Overwrite.{two_parts}
use Rattle.kpke.proofs.encrypt.encode_parts.Goals as goal

pub encode_all-requires : goal.encode_all-requires
encode_all-requires c =
    let s = c.args in
    record {
      vector = omega arith;
      some = omega arith;
      most = omega arith;
      below = below_compressed s.du s.u.now c.compress_all.ensures;
      bytes = omega arith;
    }

pub byte_encode-requires : goal.byte_encode-requires
byte_encode-requires c =
    let s = c.args in
    record {
      polynomial = omega arith;
      bytes = omega arith;
      some = omega arith;
      most = omega arith;
      below = below_compressed s.dv s.v.now c.compress_all-2.ensures;
    }

pub returns : goal.returns
returns c =
    let s = c.args in
    two_parts s.ct.now (32 * s.du * s.k) (length_encoded s.du s.k _)
    (omega (arith, length-byte_encode s.dv (map (compress s.dv) s.v.now)))
    (encoded_compressed s.du s.k s.u.now c.compress_all.ensures c.encode_all.ensures)
    (c.byte_encode.ensures ∙ ap (byte_encode s.dv) c.compress_all-2.ensures)
