-- The definition multiplies in the same way, and a bit times 64 ones fits the word.
use mathlib.Core.Path.{refl}
use Rattle.masked_comparison.specs.Comparison.{copies}
use Rattle.masked_comparison.specs.SelectionLaws.{copies_bits}
use Rattle.masked_comparison.proofs.selection.copies.Goals as goal

pub returns : goal.returns
unfolding copies
returns c = refl

pub overflow_mul-result : goal.overflow_mul-result
overflow_mul-result c =
    record { fits = (copies_bits {x = c.args.b.s0} (record { lt = c.requires.bit0 })).lt }

pub overflow_mul-result-2 : goal.overflow_mul-result-2
overflow_mul-result-2 c =
    record { fits = (copies_bits {x = c.args.b.s1} (record { lt = c.requires.bit1 })).lt }
