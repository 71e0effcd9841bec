-- The language's ^ is the definitions' xor, so that enter's contract is the one wanted.
use Rattle.words.specs.Word.{xor}
use Rattle.worksheet.proofs.enter_xor.Goals as goal

pub returns : goal.returns
unfolding xor
returns c = c.enter.ensures
