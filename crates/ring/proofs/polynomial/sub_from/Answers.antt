-- Turn by turn one coefficient of f becomes the difference's; that g's is reduced first changes nothing modulo q.
use Rattle.std.proofs.Common.{get_or, refl, ◌∙◌, ap₂, arith}
use Rattle.words.specs.Fill.{replaced_start, replaced_turn, replaced_end}
use Rattle.ring.specs.Polynomial.{minus, sub}
use Rattle.ring.specs.Sum.{minus_mod}
use Rattle.ring.proofs.polynomial.sub_from.Goals as goal

pub loop-i-preserved : goal.loop-i-preserved
loop-i-preserved c =
    let i = c.loop-i.i in
    replaced_turn c.loop-i.invariant (omega arith)
    (c.difference.ensures
    ∙ ap₂ minus (c.loop-i.invariant.rest i (omega arith)) c.remainder.ensures
    ∙ minus_mod _ (get_or c.args.g.now i 0))

pub returns : goal.returns
unfolding sub
returns c = replaced_end c.loop-i.invariant (omega arith)

pub loop-i-init : goal.loop-i-init
loop-i-init c = replaced_start refl
