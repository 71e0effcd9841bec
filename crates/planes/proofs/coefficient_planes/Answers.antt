-- The planes copied are those of the widened coefficients, which are the coefficients': a plane reads values alone.
use Prim.Native.Nat.{ℕ, ◌<◌}
use mathlib.Core.Path.{◌≡◌, ap, ◌∙◌}
use native.Mathlib.Omega.{arith}
use lib.ListN.{get_or}
use mathlib.Core.List.{List}
use Rattle.words.specs.Digit.{digit}
use Rattle.words.specs.PlaneLaws.{plane_cong}
use Rattle.words.specs.TabLaws.{tab_cong, tabulated_length, tabulated_at}
use Rattle.planes.proofs.coefficient_planes.Goals as goal

-- coefficient i of f
abbrev coefficient : List ℕ → ℕ → ℕ
coefficient f i = get_or f i 0

pub returns : goal.returns
returns c =
    let d = c.args.d in
    let f = coefficient c.args.f.now in
    let same : (i : ℕ) → i < 64 → get_or c.widened-v.result i 0 ≡ f i =
    λ i h. tabulated_at 64 f c.widened-v.ensures i 0 h in
    c.copy_from_slice.ensures.after
    ∙ c.bit_planes-p.ensures.front
    ∙ tab_cong d (λ j h. plane_cong 64 j j _ f (λ i h. ap (digit j) (same i h)))

pub bit_planes-p-requires : goal.bit_planes-p-requires
bit_planes-p-requires c = (tabulated_length 64 (coefficient c.args.f.now) c.widened-v.ensures, omega arith)

pub slice_bounds-bit_planes-end : goal.slice_bounds-bit_planes-end
slice_bounds-bit_planes-end c =
    omega (arith, tabulated_length 64 (coefficient c.args.f.now) c.widened-v.ensures)
