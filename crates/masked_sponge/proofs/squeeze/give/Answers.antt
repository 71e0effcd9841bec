-- The part lent has e - a places, and the state's first elements fill it.
use Rattle.masked_sponge.proofs.MaskedOutput.{given_part}
use Rattle.masked_sponge.proofs.squeeze.give.Goals as goal

pub returns : goal.returns
returns g c = given_part g.T.Output.read c.args.s.lanes c.requires c.extract.ensures
