-- Part j is place (i, j), for which there is enough where its stream is full.
use borrow.Author.Rules.{rules}
use Rattle.sampling.specs.Sample.{full}
use Rattle.hash_functions.specs.Functions.{XOF}
use Rattle.kpke.specs.KPke.{matrix}
use Rattle.kpke.proofs.matrix.expand_row.Goals as goal

pub returns : goal.returns
returns c =
    let rho = c.args.rho.now in
    let i = c.args.i in
    c.sample_parts.ensures (λ j. full (XOF rho i j)) (matrix rho i) (λ j part left r h l p. search rules)
