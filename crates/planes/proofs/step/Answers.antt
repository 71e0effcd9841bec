-- A turn fills two rows of o, the even one with the lower word of an exchange and the odd one with the upper.
use Prim.Native.Nat.{ℕ, ◌*◌, ◌+◌}
use mathlib.Core.Path.{◌≡◌, sym, ◌∙◌}
use native.Mathlib.Omega.{arith}
use lib.ListN.{get_or, length-set}
use Rattle.words.specs.Fill.{filled_start, filled_turn, filled_end}
use Rattle.planes.proofs.TranspositionLaws.{stepped_even, stepped_odd}
use Rattle.planes.proofs.step.Goals as goal

-- ---- facts
pub loop-i-preserved : goal.loop-i-preserved
loop-i-preserved c =
    let l = c.loop-i in
    let i = l.i in
    let a = c.args in
    let w : ℕ → ℕ = λ k. get_or a.w.now k 0 in
    let low = c.exchange-low.ensures.0 ∙ sym (stepped_even a.s a.m w i) in
    let high = c.exchange-low.ensures.1 ∙ sym (stepped_odd a.s a.m w i) in
    let e : 2 * i + 1 + 1 ≡ 2 * (i + 1) = omega arith in
    (omega arith, rw e at (filled_turn (filled_turn l.invariant.1 (omega arith) low) (omega arith) high))

-- the first store has left o's length
pub bounds-o-i-in-loop-i : goal.bounds-o-i-in-loop-i
bounds-o-i-in-loop-i c =
    let l = c.loop-i in
    omega (arith, length-set l.o (2 * l.i) c.exchange-low.result.0, l.invariant.1.long)

pub loop-i-init : goal.loop-i-init
loop-i-init c = (omega arith, filled_start (omega arith))

pub returns : goal.returns
returns c = filled_end c.loop-i.invariant.1 (omega arith)
