-- Turn i samples coefficient i with the next 2 eta masks and stores it.
use Prim.Native.Nat.{ℕ, ◌+◌, ◌*◌, ◌≤◌}
use mathlib.Core.Path.{◌≡◌}
use native.Mathlib.Nat.{mul-zero}
use native.Mathlib.Omega.{arith}
use lib.ListN.{length}
use Rattle.words.specs.Part.{part_fits}
use Rattle.worksheet.specs.Ran.{part_coeffs}
use Rattle.worksheet.specs.RanLoops.{times_start, times_turn}
use Rattle.worksheet.specs.StoredSharings.{sharings_start, sharings_turn, sharings_end}
use Rattle.stages.specs.Counts.{noise_coeffs}
use Rattle.stages.specs.LentLaws.{masks_rest}
use Rattle.worksheet.specs.SharedList.{SharedList}
use Rattle.masked_noise.specs.Lent.{SampleInput}
use mathlib.Core.List.{List}
use Rattle.masked_noise.proofs.sample_all.Goals as goal

-- there are 2 eta masks for each of the 256 coefficients
coeffs-all : {eta : ℕ} {o f : SharedList} {cs : List ℕ} → SampleInput eta o cs f → 2 * eta * 256 ≤ length cs
unfolding noise_coeffs
coeffs-all g = omega (arith, g.convert.coeffs.enough)

pub sample_one-o-requires : goal.sample_one-o-requires
unfolding noise_coeffs
sample_one-o-requires c =
    let g = c.requires in
    let n = 2 * c.args.eta in
    record {
      bits = record { width = g.width; number = c.loop-i-test.true; input = g.convert.input };
      coeffs = masks_rest (n * c.loop-i.i) n (omega (arith, part_fits n c.loop-i-test.true)) g.convert.coeffs;
    }

pub loop-i-preserved : goal.loop-i-preserved
loop-i-preserved c =
    let l = c.loop-i in
    let a = c.args in
    let n = 2 * a.eta in
    let e : n * (l.i + 1) ≡ n * l.i + n = omega arith in
    sharings_turn l.invariant _ _ (omega arith) (λ ws.
    rw e
    (times_turn _ l.i (l.invariant.ran ws) (part_coeffs a.cs.now (n * l.i) n (c.sample_one-o.ensures ws))))

pub returns : goal.returns
unfolding noise_coeffs
returns c ws =
    let e : 256 * (2 * c.args.eta) ≡ 2 * c.args.eta * 256 = omega arith in
    rw e (sharings_end c.loop-i.invariant (omega arith) ws)

pub loop-i-init : goal.loop-i-init
loop-i-init c = sharings_start (omega arith) (omega arith) (omega arith) (λ ws. rw mul-zero (times_start _))

pub overflow_mul-k-in-loop-i : goal.overflow_mul-k-in-loop-i
overflow_mul-k-in-loop-i c = omega (arith, part_fits (2 * c.args.eta) c.loop-i-test.true)

pub offset_bounds-cs-k : goal.offset_bounds-cs-k
offset_bounds-cs-k c = omega (arith, part_fits (2 * c.args.eta) c.loop-i-test.true)

pub slice_bounds-sample_one-count : goal.slice_bounds-sample_one-count
slice_bounds-sample_one-count c = omega (arith, part_fits (2 * c.args.eta) c.loop-i-test.true, coeffs-all c.requires)

pub slice_bounds-sample_one-start : goal.slice_bounds-sample_one-start
slice_bounds-sample_one-start c = omega (arith, part_fits (2 * c.args.eta) c.loop-i-test.true, coeffs-all c.requires)
