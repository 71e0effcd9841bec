-- The string is written in two parts: the first ends where the second begins, and each is what its call leaves.
use native.Mathlib.Omega.{arith}
use Rattle.words.specs.Overwrite.{two_parts}
use Rattle.words.specs.NumeralLaws.{length_digits}
use Rattle.cli_support.proofs.state_packing.pack_uses.Goals as goal

pub returns : goal.returns
returns c =
    let a = c.args in
    two_parts a.out.now 4
    (length_digits 256 4 a.limit)
    (omega (arith, length_digits 256 4 a.count, c.requires))
    c.put_number.ensures
    c.put_number-2.ensures
