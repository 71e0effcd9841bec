-- The two calls are the definition's two steps, and only the second draws: the strip is the permutation's.
use Rattle.worksheet.specs.Ran.{bind}
use Rattle.masked_sponge.proofs.absorb.take_in.Goals as goal

pub returns : goal.returns
returns = (λ c cs. bind _ (c.mix_lanes-m.ensures _ _) (c.permute.ensures cs))
