-- The definition's xor is the code's, so that what is entered is the definition's word.
use Rattle.words.specs.Word.{xor}
use Rattle.masked_adder.proofs.enter_xor3.Goals as goal

pub returns : goal.returns
unfolding xor
returns c = c.enter.ensures
