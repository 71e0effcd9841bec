-- The four calls leave line 19's terms: column i of A-hat by y-hat, transformed back, and e1's polynomial i.
use borrow.Author.Rules.{rules}
use Rattle.kpke.proofs.Products.{column_fits, first_part_calls}
use Rattle.kpke.proofs.encrypt.first_part.Goals as goal

pub dot-requires : goal.dot-requires
dot-requires c = search (rules, column_fits)

pub returns : goal.returns
returns c = search (rules, first_part_calls)
