-- The calls leave line 21's terms: t-hat by y-hat, transformed back, and then e2 and mu.
use borrow.Author.Rules.{rules}
use Rattle.kpke.proofs.Products.{second_part_calls}
use Rattle.kpke.proofs.encrypt.second_part.Goals as goal

pub returns : goal.returns
returns c = search (rules, second_part_calls)
