-- Turn by turn one more pair of f g is added to s, with the constant that FIPS 203 gives it.
use native.Mathlib.Omega.{arith}
use Rattle.words.specs.TabLaws.{tabulated_at}
use Rattle.transform.specs.Transform.{gamma}
use Rattle.transform.proofs.Powers.{zetas-tab}
use Rattle.transform.proofs.Products.{added_start, added_turn, added_end}
use Rattle.transform.proofs.multiply.multiply_add.Goals as goal

pub base_case_multiply-requires : goal.base_case_multiply-requires
base_case_multiply-requires c =
    let a = c.loop-i in
    record {
      sum = omega arith;
      left = omega arith;
      right = omega arith;
      constant = tabulated_at 128 gamma a.invariant.0 a.i 0 (omega arith);
    }

pub loop-i-preserved : goal.loop-i-preserved
loop-i-preserved c =
    let a = c.loop-i in
    (a.invariant.0, rw c.base_case_multiply.ensures (added_turn a.invariant.1 (omega arith)))

pub returns : goal.returns
returns c = added_end c.loop-i.invariant.1 c.requires.sum (omega arith)

pub gammas_of-requires : goal.gammas_of-requires
gammas_of-requires c = record { table = zetas-tab; room = omega arith }

pub loop-i-init : goal.loop-i-init
loop-i-init c = (c.gammas_of.ensures, added_start (omega arith))
