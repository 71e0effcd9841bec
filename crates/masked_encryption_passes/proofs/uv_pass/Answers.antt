-- y is the first k polynomials of n and is transformed there, e1 the next k and e2 the last.
use Rattle.vectors.specs.Vector.{parts}
use Rattle.kpke.specs.Expanded.{places_of}
use Rattle.masked_encryption_passes.proofs.Written.{uv_of_parts}
use Rattle.masked_encryption_passes.proofs.uv_pass.Goals as goal

pub returns : goal.returns
returns c =
    let a = c.args in
    uv_of_parts a.k (places_of a.k a.a.now) (parts 256 a.t.now) a.mu.now a.n.now
    c.requires.share.noise _ c.ntt_all.ensures c.uv_passes.ensures

pub shape_of-uv : goal.shape_of-uv
shape_of-uv c = c.uv_passes.auto.uv
