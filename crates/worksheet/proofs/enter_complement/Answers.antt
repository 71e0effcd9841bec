-- The complement at a width is the exclusive or with that width's ones.
use mathlib.Core.Path.{sym}
use Rattle.words.specs.Word.{complement}
use Rattle.worksheet.proofs.enter_complement.Goals as goal

pub returns : goal.returns
unfolding complement
returns = (λ c w e. rw (sym e) c.enter_xor.ensures)
