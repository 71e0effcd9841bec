-- The three calls are the definition's three steps: the folding draws n masks, the halves draw the six after these.
use mathlib.Core.Path.{refl}
use Rattle.words.specs.Word.{ones}
use Rattle.worksheet.specs.Ran.{bind, part_words}
use Rattle.masked_comparison.specs.Comparison.{all_zero}
use Rattle.masked_comparison.proofs.comparison.all_zero.Goals as goal

pub returns : goal.returns
unfolding all_zero ones
returns c cs =
    let a = c.args in
    bind _ (c.fold_or-f.ensures cs)
    (bind _ (part_words a.ws.now a.n 6 (c.halves-b.ensures cs)) (c.masked_not.ensures 1 refl _ cs))
