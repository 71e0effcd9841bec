-- The first part's bytes hold the k polynomials of depth du, and the rest the last one, of depth dv.
use Rattle.masked_mlkem.proofs.Compared.{planes_written}
use Rattle.masked_mlkem.proofs.comparison.ciphertext_planes.Goals as goal

pub returns : goal.returns
returns c =
    let a = c.args in
    planes_written a.p a.c.now a.out.now c.requires.out c.first_planes.ensures
    c.encoded_planes.ensures
