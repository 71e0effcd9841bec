-- Packing and five steps, each on the rows that the one before has left, make the transposition, whose rows are planes.
use Prim.Native.Nat.{ℕ}
use mathlib.Core.Path.{◌∙◌}
use lib.ListN.{get_or}
use Rattle.words.specs.TabLaws.{tab_cong}
use Rattle.planes.specs.Transposition.{transposed}
use Rattle.planes.proofs.TranspositionLaws.{stepped-tab, transposed-plane}
use Rattle.planes.proofs.transpose.Goals as goal

pub returns : goal.returns
unfolding transposed
returns c =
    let v : ℕ → ℕ = λ i. get_or c.args.v.now i 0 in
    let rows1 = stepped-tab _ _ _ c.pack.ensures c.step.ensures in
    let rows2 = stepped-tab _ _ _ rows1 c.step-2.ensures in
    let rows3 = stepped-tab _ _ _ rows2 c.step-3.ensures in
    let rows4 = stepped-tab _ _ _ rows3 c.step-4.ensures in
    stepped-tab _ _ _ rows4 c.step-5.ensures ∙ tab_cong 32 (transposed-plane v)
