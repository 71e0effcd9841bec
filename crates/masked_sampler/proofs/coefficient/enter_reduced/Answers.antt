-- What is entered is what the reduction gave, and that is the remainder.
use Rattle.masked_sampler.proofs.coefficient.enter_reduced.Goals as goal

pub returns : goal.returns
returns c = rw (← c.reduce_short.ensures) c.enter_coeff.ensures

pub reduce_short-requires : goal.reduce_short-requires
reduce_short-requires c = c.requires
