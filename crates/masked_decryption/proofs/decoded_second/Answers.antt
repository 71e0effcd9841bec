-- What stands behind the first part's bytes is the second part, which holds one polynomial at depth dv.
use mathlib.Core.Path.{ap, ◌∙◌}
use mathlib.Core.List.{List, map}
use Prim.Native.Nat.{ℕ, ◌*◌}
use Rattle.words.specs.Part.{part_rest}
use Rattle.codec.specs.Bytes.{byte_decode}
use Rattle.codec.specs.Compress.{decompress}
use Rattle.kpke.specs.KPke.{second_decoded}
use Rattle.masked_decryption.proofs.decoded_second.Goals as goal

pub returns : goal.returns
unfolding second_decoded
returns c =
    let a = c.args in
    let d = a.p.dv in
    c.decoded.ensures
    ∙ ap (λ (l : List ℕ). map (decompress d) (byte_decode d l)) (part_rest (32 * a.p.du * a.p.k) a.c.now)
