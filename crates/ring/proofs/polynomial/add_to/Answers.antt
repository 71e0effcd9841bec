-- Turn by turn one coefficient of f becomes the sum's; the others are still as they were.
use Rattle.std.proofs.Common.{ℕ, ◌+◌, ◌%◌, get_or, refl, ap, ◌∙◌, arith}
use Rattle.words.specs.Fill.{replaced_start, replaced_turn, replaced_end}
use Rattle.words.specs.Residue.{q}
use Rattle.ring.specs.Polynomial.{add}
use Rattle.ring.proofs.polynomial.add_to.Goals as goal

pub loop-i-preserved : goal.loop-i-preserved
loop-i-preserved c =
    let i = c.loop-i.i in
    replaced_turn c.loop-i.invariant (omega arith)
    (c.sum.ensures
    ∙ ap (λ (x : ℕ). (x + get_or c.args.g.now i 0) % q) (c.loop-i.invariant.rest i (omega arith)))

pub returns : goal.returns
unfolding add
returns c = replaced_end c.loop-i.invariant (omega arith)

pub loop-i-init : goal.loop-i-init
loop-i-init c = replaced_start refl
