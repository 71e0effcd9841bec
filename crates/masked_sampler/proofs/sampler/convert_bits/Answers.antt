-- The loop is the definition's own: the first j conversions have run on the first j masks, and stand in two arrays.
use native.Mathlib.Omega.{arith}
use Rattle.worksheet.specs.Ran.{next_coeff}
use Rattle.worksheet.specs.RanLoops.{times_start, times_turn}
use Rattle.worksheet.specs.StoredSharings.{sharings_start, sharings_turn, sharings_end}
use Rattle.masked_sampler.proofs.sampler.convert_bits.Goals as goal

-- ---- facts
pub bit_to_coeff-z-requires : goal.bit_to_coeff-z-requires
bit_to_coeff-z-requires c =
    (c.bit_of.ensures.bits, c.requires.lent.below.at _)

pub loop-j-preserved : goal.loop-j-preserved
loop-j-preserved c =
    let l = c.loop-j in
    sharings_turn l.invariant _ _ (omega arith) (λ ws.
    times_turn _ l.j (l.invariant.ran ws)
    (next_coeff c.args.cs.now l.j
    (rw (← c.weight.ensures, ← c.bit_of.ensures.is) c.bit_to_coeff-z.ensures)))

pub loop-j-init : goal.loop-j-init
loop-j-init c = sharings_start (omega arith) (omega arith) (omega arith) (λ ws. times_start _)

pub returns : goal.returns
returns c = sharings_end c.loop-j.invariant (omega arith)
