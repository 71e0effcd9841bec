-- Turn i makes bit i of the message a coefficient with mask coefficient i, and stores its two shares at place i.
use mathlib.Core.Path.{refl}
use native.Mathlib.Omega.{arith}
use Rattle.worksheet.specs.Ran.{bind, over, next_coeff}
use Rattle.worksheet.specs.RanLoops.{times_start, times_turn}
use Rattle.worksheet.specs.StoredSharings.{sharings_start, sharings_turn, sharings_end, sharings_unzipped}
use Rattle.stages.specs.Worksheet.{stage4}
use Rattle.masked_encryption.proofs.message.stage4.Goals as goal

pub bit_to_coeff-o-requires : goal.bit_to_coeff-o-requires
bit_to_coeff-o-requires c =
    (c.bit_of.ensures.bits, c.requires.coeffs.below.at c.loop-i.i)

pub loop-i-preserved : goal.loop-i-preserved
loop-i-preserved c =
    let l = c.loop-i in
    sharings_turn l.invariant _ _ (omega arith) (λ ws.
    times_turn _ l.i (l.invariant.ran ws)
    (next_coeff c.args.cs.now l.i (rw (← c.bit_of.ensures.is) c.bit_to_coeff-o.ensures)))

pub returns : goal.returns
unfolding stage4
returns c ws =
    let stored = c.loop-i.invariant in
    bind _ (sharings_end stored (omega arith) ws) (rw (sharings_unzipped stored refl) over)

pub loop-i-init : goal.loop-i-init
loop-i-init c = sharings_start (omega arith) (omega arith) (omega arith) (λ ws. times_start _)
