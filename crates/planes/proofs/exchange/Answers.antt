-- The definition's words are the code's own expressions, once its xor and And are the machine's.
use mathlib.Core.Path.{refl}
use Rattle.words.specs.Word.{xor, and}
use Rattle.planes.specs.Transposition.{differences}
use Rattle.planes.proofs.exchange.Goals as goal

pub returns : goal.returns
unfolding xor and differences
returns c = (refl, refl)
