-- Both results are one combination each of the pairs read; that b1 z is reduced before a1 multiplies it changes
-- nothing modulo q.
use Rattle.transform.proofs.Products.{pair_calls}
use Rattle.transform.proofs.multiply.base_case_multiply.Goals as goal

pub returns : goal.returns
returns c =
    let a = c.args in
    pair_calls a.s.now a.f.now a.g.now a.i c.requires.constant c.product.ensures
    c.combination.ensures c.combination-2.ensures
