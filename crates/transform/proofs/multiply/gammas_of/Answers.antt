-- Two entries a turn, of one root: gamma (2 j) is zeta (64 + j), and gamma (2 j + 1) is its negative.
use mathlib.Core.Path.{◌≡◌, sym, ap, ◌∙◌}
use Prim.Native.Nat.{ℕ, ◌+◌, ◌-◌, ◌*◌, ◌<◌}
use mathlib.Core.List.{List}
use native.Mathlib.Omega.{arith}
use lib.ListN.{length, get_or, take, drop, length-set}
use Rattle.std.proofs.Common.{get_or-drop}
use Rattle.words.specs.Part.{part_rest, length_part}
use Rattle.words.specs.Tab.{tab}
use Rattle.words.specs.Residue.{q}
use Rattle.words.specs.TabLaws.{tabulated_length}
use Rattle.words.specs.Fill.{filled_start, filled_turn, filled_end}
use Rattle.transform.specs.Transform.{zeta}
use Rattle.transform.proofs.Powers.{gamma_even, gamma_odd, root, root_below}
use Rattle.transform.proofs.multiply.gammas_of.Goals as goal

-- element j of the table's second half
second_half : {l : List ℕ} → l ≡ tab 128 zeta → (j : ℕ) → j < 64
    → get_or (take (length l - 64) (drop 64 l)) j 0 ≡ zeta (64 + j)
second_half {l} h j g =
    ap (λ (k : List ℕ). get_or k j 0) (part_rest 64 l) ∙ get_or-drop 64 l j 0 ∙ root h (64 + j) (omega arith)

half_length : (l : List ℕ) {j : ℕ} → length l ≡ 128 → j < length (take (length l - 64) (drop 64 l)) → j < 64
half_length l e h = omega (arith, length_part 64 (length l - 64) l (omega arith))

pub loop-j-preserved : goal.loop-j-preserved
loop-j-preserved c =
    let j = c.loop-j.j in
    let long = c.loop-j.invariant.0 in
    let h : j < 64 = half_length c.args.zetas.now long c.loop-j-test.true in
    let r = second_half c.requires.table j h in
    let e : 2 * (j + 1) ≡ 2 * j + 1 + 1 = omega arith in (
      omega arith,
      rw e
          (filled_turn
          (filled_turn c.loop-j.invariant.1 (omega arith) (r ∙ sym (gamma_even j h)))
          (omega arith)
          (ap (λ (z : ℕ). q - z) r ∙ sym (gamma_odd j h))),
    )

pub loop-j-init : goal.loop-j-init
loop-j-init c = (tabulated_length 128 zeta c.requires.table, filled_start (omega arith))

pub overflow_sub-gammas : goal.overflow_sub-gammas
overflow_sub-gammas c =
    let j = c.loop-j.j in
    let long = c.loop-j.invariant.0 in
    let h : j < 64 = half_length c.args.zetas.now long c.loop-j-test.true in
    let t = c.requires.table in
    omega (arith, second_half t j h, root t (64 + j) (omega arith), root_below t (64 + j) (omega arith))

pub bounds-gammas-j-in-loop-j : goal.bounds-gammas-j-in-loop-j
bounds-gammas-j-in-loop-j c =
    let h : c.loop-j.j < 64 = half_length c.args.zetas.now c.loop-j.invariant.0 c.loop-j-test.true in
    simp length-set (omega arith)

pub slice_bounds-z-items-count : goal.slice_bounds-z-items-count
slice_bounds-z-items-count c = omega (arith, tabulated_length 128 zeta c.requires.table)

pub slice_bounds-z-items-start : goal.slice_bounds-z-items-start
slice_bounds-z-items-start c = omega (arith, tabulated_length 128 zeta c.requires.table)

pub returns : goal.returns
returns c =
    let long = c.loop-j.invariant.0 in
    filled_end c.loop-j.invariant.1
    (omega (arith, length_part 64 (length c.args.zetas.now - 64) c.args.zetas.now (omega arith)))
