-- The language's ^ is the definitions' xor, on each of the five lanes.
use mathlib.Core.Path.{refl}
use Rattle.words.specs.Word.{xor}
use Rattle.keccak.proofs.row.RowBitXor.bitxor.Goals as goal

pub returns : goal.returns
unfolding xor
returns c = refl
