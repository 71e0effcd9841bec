-- out starts as 0, and turn j adds the product of a's part start + step * j and b's part j, so that k turns add up
-- dot's sum.
use mathlib.Core.Path.{refl, ap₂, ◌∙◌}
use Prim.Native.Nat.{◌+◌, ◌*◌}
use native.Mathlib.Omega.{arith}
use lib.ListN.{replicate}
use Rattle.words.specs.IterateLaws.{reached_start, reached_turn, reached_end}
use Rattle.ring.specs.Polynomial.{add}
use Rattle.transform.specs.Transform.{multiply_ntts}
use Rattle.vectors.specs.Vector.{dot}
use Rattle.words.specs.Part.{part_span}
use Rattle.vectors.proofs.dot.Goals as goal

pub loop-j-init : goal.loop-j-init
loop-j-init c =
    (omega arith, rw (c.clear.ensures ∙ ap₂ replicate c.requires.polynomial refl) reached_start)

pub loop-j-preserved : goal.loop-j-preserved
loop-j-preserved c =
    let s = c.args in
    let j = c.loop-j.j in
    let x = 256 * (s.start + s.step * j) in
    let product = ap₂ multiply_ntts (part_span x 256 s.a.now) (part_span (256 * j) 256 s.b.now) in
    (omega arith, reached_turn c.loop-j.invariant.1 (omega arith) (c.multiply_add.ensures ∙ ap₂ add refl product))

pub returns : goal.returns
unfolding dot
returns c = reached_end c.loop-j.invariant.1 (omega arith)
