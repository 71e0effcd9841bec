-- The string is written in two parts: the first ends where the second begins, and each is what its call leaves.
use native.Mathlib.Omega.{arith}
use Rattle.words.specs.Overwrite.{two_parts}
use Rattle.words.specs.LittleEndianLaws.{length-words_to_bytes}
use Rattle.cli_support.proofs.split_packing.pack_words.Goals as goal

pub returns : goal.returns
returns c =
    let a = c.args in
    two_parts a.out.now 32
    (omega (arith, length-words_to_bytes 8 a.z0.now, c.requires))
    (omega (arith, length-words_to_bytes 8 a.z1.now, c.requires))
    c.put_words.ensures
    c.put_words-2.ensures
