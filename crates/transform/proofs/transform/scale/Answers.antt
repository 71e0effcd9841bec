-- Turn by turn one coefficient is multiplied by z, by `multiple`; the others are still as they were.
use mathlib.Core.Path.{ap, ◌∙◌}
use Prim.Native.Nat.{ℕ, ◌*◌, ◌%◌}
use native.Mathlib.Nat.{mul_comm}
use native.Mathlib.Omega.{arith}
use lib.ListN.{get_or}
use Rattle.words.specs.Fill.{replaced_start, replaced_turn, replaced_end}
use Rattle.words.specs.Residue.{q}
use Rattle.transform.proofs.transform.scale.Goals as goal

pub loop-x-preserved : goal.loop-x-preserved
loop-x-preserved c =
    let i = c.loop-x.x-index in
    let z = c.args.z in
    replaced_turn c.loop-x.invariant (omega arith)
    (c.multiple.ensures
    ∙ ap (λ (n : ℕ). n % q) (mul_comm z (get_or c.loop-x.f i 0))
    ∙ ap (λ (x : ℕ). x * z % q) (c.loop-x.invariant.rest i (omega arith)))

pub loop-x-init : goal.loop-x-init
loop-x-init c = replaced_start (omega arith)

pub returns : goal.returns
returns c = replaced_end c.loop-x.invariant (omega arith)
