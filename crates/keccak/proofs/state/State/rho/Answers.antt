-- The five rows are read, rotated lane by lane and put together again; the walk of Algorithm 2, computed, gives the
-- code's 25 offsets.
use borrow.Author.Rules.{rules}
use Rattle.keccak.proofs.ByRows.{rho_calls}
use Rattle.keccak.proofs.state.State.rho.Goals as goal

pub returns : goal.returns
returns c = search (rules, rho_calls)
