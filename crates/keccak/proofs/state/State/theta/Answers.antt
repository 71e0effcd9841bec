-- The exclusive or of the five rows is the row of parities C, from which effect_row makes D; adding D to each row is
-- theta lane by lane.
use borrow.Author.Rules.{rules}
use Rattle.keccak.proofs.ByRows.{theta_calls}
use Rattle.keccak.proofs.state.State.theta.Goals as goal

pub returns : goal.returns
returns c = search (rules, theta_calls)
