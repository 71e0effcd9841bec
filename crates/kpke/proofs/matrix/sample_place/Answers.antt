-- s is the stream of place (i, j), of which fill_ntt is SampleNTT.
use Rattle.kpke.proofs.matrix.sample_place.Goals as goal

pub returns : goal.returns
returns c = rw (← c.xof.ensures) c.fill_ntt.ensures
