-- The five rows are read, made by chi_row and put together again: five rows of chi, which say what chi's 25 lanes say.
use borrow.Author.Rules.{rules}
use Rattle.keccak.proofs.ByRows.{chi_calls}
use Rattle.keccak.proofs.state.State.chi.Goals as goal

pub returns : goal.returns
returns c = search (rules, chi_calls)
