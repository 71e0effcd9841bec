-- The bytes are decoded by 2 eta bits each, and every number so decoded is a coefficient's 2 eta bits.
use mathlib.Core.Path.{sym, ap, ◌∙◌}
use mathlib.Core.List.{map}
use Prim.Native.Nat.{◌*◌}
use native.Mathlib.Omega.{arith}
use Rattle.codec.specs.BytesLaws.{below-byte_decode}
use Rattle.sampling.specs.SampleLaws.{centred, sample_poly_cbd-byte_decode}
use Rattle.sampling.proofs.sample_poly_cbd.Goals as goal

-- ---- facts
pub centre_all-requires : goal.centre_all-requires
centre_all-requires c = (
  c.requires.most,
  rw c.byte_decode.ensures (below-byte_decode (2 * c.args.eta) c.args.bytes.now (omega arith)),
)

pub returns : goal.returns
returns c =
    c.centre_all.ensures
    ∙ ap (map (centred c.args.eta)) c.byte_decode.ensures
    ∙ sym (sample_poly_cbd-byte_decode c.args.eta c.args.bytes.now c.requires.bytes)
