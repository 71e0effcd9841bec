-- u is written in front of v, each by its pass.
use Rattle.vectors.specs.Vector.{parts}
use Rattle.kpke.specs.Expanded.{places_of}
use Rattle.masked_encryption_passes.proofs.Written.{uv_written}
use Rattle.masked_encryption_passes.proofs.uv_passes.Goals as goal

pub returns : goal.returns
returns c =
    let a = c.args in
    uv_written a.k (places_of a.k a.a.now) (parts 256 a.t.now) a.mu.now a.uv.now c.requires.out
    (parts 256 a.y.now) (parts 256 a.e1.now) a.e2.now c.u_passes.ensures c.v_pass.ensures
