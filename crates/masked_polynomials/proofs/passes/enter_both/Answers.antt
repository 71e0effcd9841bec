-- Share 0's entries, then share 1's, as many: enterBoth's two passes.
use Rattle.worksheet.specs.Pass.{enter_both}
use Rattle.worksheet.specs.Ran.{bind, over}
use Rattle.masked_polynomials.proofs.passes.enter_both.Goals as goal

pub returns : goal.returns
unfolding enter_both
returns c ws cs =
    bind _ (c.enter_share-rec.ensures ws cs) (bind _ (rw (← c.requires) at (c.enter_share.ensures ws cs)) over)
