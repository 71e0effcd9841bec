-- Only lane 0 is stored, and the language's ^ is the definitions' xor.
use mathlib.Core.Path.{refl}
use Rattle.words.specs.Word.{xor}
use Rattle.keccak.specs.KeccakP.{iota}
use Rattle.keccak.proofs.state.State.iota.Goals as goal

pub returns : goal.returns
unfolding iota xor
returns c = refl
