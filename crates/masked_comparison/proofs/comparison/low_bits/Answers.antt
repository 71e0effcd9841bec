-- And with h ones is the remainder by 2^h.
use lib.Bits.{and_mask}
use Rattle.words.specs.Word.{ones, low}
use Rattle.masked_comparison.proofs.comparison.low_bits.Goals as goal

pub returns : goal.returns
unfolding ones low
returns c = let a = c.args in rw c.ones.ensures (and_mask a.x a.h)
