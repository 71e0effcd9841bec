-- Part i becomes what the 384 bytes of part i decode to, which is what `coefficients` puts there.
use borrow.Author.Rules.{rules}
use Rattle.vectors.specs.Vector.{coefficients}
use Rattle.vectors.proofs.decode_all.Goals as goal

pub returns : goal.returns
unfolding coefficients
returns c = search rules
