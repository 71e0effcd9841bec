-- The definition is this sum, and depths within the bounds keep it small.
use native.Mathlib.Omega.{arith}
use Rattle.parameters.specs.Largest.{planes_most}
use Rattle.stages.proofs.mask_counts.word_count.Goals as goal

pub returns : goal.returns
returns c =
    let e = c.ciphertext_sum.ensures.value in
    let fits = c.requires in
    record { value = e; upper_bound = omega (arith, e, planes_most fits, fits.dv.most) }
