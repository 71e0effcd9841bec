-- The three calls are the definition's three steps: the sums of each share read the array in which its terms stand.
use Prim.Native.Nat.{◌*◌, ◌-◌}
use mathlib.Core.Path.{refl}
use native.Mathlib.Omega.{arith}
use lib.ListN.{drop}
use Rattle.worksheet.specs.Ran.{bind, over}
use Rattle.masked_sampler.specs.Coefficient.{sampler}
use Rattle.masked_sampler.proofs.SumsZip.{sums_zip0, sums_zip1}
use Rattle.masked_sampler.proofs.sampler.sampler.Goals as goal

pub returns : goal.returns
unfolding sampler
returns c ws =
    let a = c.args in
    let n = 2 * a.eta in
    let cs = drop n a.cs.now in
    let l = c.convert_bits-rec.new.s0 in
    let m = c.convert_bits-rec.new.s1 in
    bind _ (c.convert_bits-rec.ensures ws)
    (bind _ (rw (← sums_zip0 n (n - 1) l m (omega arith)) at (c.sum_terms-a0.ensures ws cs))
    (bind _ (rw (← sums_zip1 n (n - 1) l m (omega arith)) at (c.sum_terms-a1.ensures ws cs)) over))

pub convert_bits-rec-requires : goal.convert_bits-rec-requires
convert_bits-rec-requires c = record { lent = c.requires; long0 = refl; long1 = refl }
