-- The four calls leave line 18's terms: row i of A-hat by s-hat, and e-hat[i]; k * i is small since row i lies within
-- the matrix.
use borrow.Author.Rules.{rules}
use native.Mathlib.Omega.{arith}
use Rattle.kpke.proofs.Products.{row_fits, public_polynomial_calls, ntt_of_lem}
use Rattle.kpke.proofs.key_making.public_polynomial.Goals as goal

pub overflow_mul-k : goal.overflow_mul-k
overflow_mul-k c =
    let s = c.args in
    omega (arith, row_fits s.k s.i 0 s.a.now (omega arith) (omega arith) (omega arith))

pub dot-requires : goal.dot-requires
dot-requires c = search (rules, row_fits)

pub returns : goal.returns
returns c = search (rules, public_polynomial_calls, ntt_of_lem)
