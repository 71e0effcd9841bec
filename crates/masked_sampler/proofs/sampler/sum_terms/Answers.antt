-- The loop is the definition's own: s is the sum of the first term and those entered so far, from the left.
use Prim.Native.Nat.{ℕ, ◌+◌, ◌-◌}
use mathlib.Core.Path.{◌≡◌, ap, ◌∙◌}
use native.Mathlib.Nat.{add_comm}
use native.Mathlib.Omega.{arith}
use lib.ListN.{get_or, take, drop}
use Rattle.std.proofs.lemmas.List.{get_or-take, get_or-drop}
use Rattle.worksheet.specs.RanLoops.{loop_start, loop_turn}
use Rattle.masked_sampler.specs.Coefficient.{sums}
use Rattle.masked_sampler.proofs.sampler.sum_terms.Goals as goal

-- ---- facts
pub loop-y-init : goal.loop-y-init
unfolding sums
loop-y-init c = (omega arith, λ ws cs. loop_start _ _)

pub loop-y-preserved : goal.loop-y-preserved
unfolding sums
loop-y-preserved c =
    let l = c.loop-y in
    let i = l.y-index in
    let n = c.args.n in
    let x = c.args.x.now in
    let read : get_or (take (n + 1 - 1) (drop 1 x)) i 0 ≡ get_or x (i + 1) 0 =
    get_or-take (n + 1 - 1) (drop 1 x) i 0 (omega arith)
    ∙ get_or-drop 1 x i 0
    ∙ ap (λ (k : ℕ). get_or x k 0) (add_comm 1 i) in
    (omega arith, λ ws cs. loop_turn _ _ i (l.invariant.1 ws cs) (rw read at (c.enter_sum-e.ensures ws cs)))

pub returns : goal.returns
returns c ws cs =
    let e : c.loop-y.y-index ≡ c.args.n = omega arith in
    rw e at (c.loop-y.invariant.1 ws cs)
