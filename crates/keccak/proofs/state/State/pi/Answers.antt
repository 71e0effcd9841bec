-- Each lane of the new state is a lane of one of the five rows, and their places are those of Algorithm 3, computed.
use borrow.Author.Rules.{rules}
use Rattle.keccak.proofs.ByRows.{pi_calls}
use Rattle.keccak.proofs.state.State.pi.Goals as goal

pub returns : goal.returns
returns c = search (rules, pi_calls)
