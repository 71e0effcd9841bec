-- The code makes the definition's halves, ones and mask, and its Or is the definition's at h bits.
use mathlib.Core.Path.{sym, ap, ◌∙◌}
use Rattle.words.specs.Word.{low}
use Rattle.masked_comparison.specs.Comparison.{halve}
use Rattle.masked_comparison.proofs.comparison.halve.Goals as goal

pub returns : goal.returns
unfolding halve
returns c ws cs e =
    let h = c.args.h in
    rw (← c.low_bits.ensures, ← c.low_bits-2.ensures)
    (c.masked_or.ensures h c.ones.ensures ws cs (ap (low h) e ∙ sym c.low_bits-3.ensures))
