-- The language's & is the definitions' and, so that enter's contract is the one wanted.
use Rattle.words.specs.Word.{and}
use Rattle.worksheet.proofs.enter_and.Goals as goal

pub returns : goal.returns
unfolding and
returns c = c.enter.ensures
