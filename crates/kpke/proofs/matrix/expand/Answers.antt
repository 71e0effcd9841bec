-- Part i is row i, for which there is enough where its streams are full.
use borrow.Author.Rules.{rules}
use Rattle.words.specs.Table.{every}
use Rattle.sampling.specs.Sample.{full}
use Rattle.hash_functions.specs.Functions.{XOF}
use Rattle.vectors.specs.Vector.{concat}
use Rattle.kpke.specs.KPke.{matrix, matrix_full}
use Rattle.kpke.proofs.matrix.expand.Goals as goal

pub returns : goal.returns
unfolding matrix_full
returns c =
    let rho = c.args.rho.now in
    let k = c.args.k in
    c.sample_parts.ensures (λ i. every k (λ j. full (XOF rho i j))) (λ i. concat k (matrix rho i))
    (λ i part left r h l p. search rules)
