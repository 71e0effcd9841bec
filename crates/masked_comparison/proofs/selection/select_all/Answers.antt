-- Turn j stores the selected word j of both shares, with mask word j.
use mathlib.Core.Path.{refl}
use native.Mathlib.Omega.{arith}
use Rattle.worksheet.specs.Ran.{bind, over, next_bits}
use Rattle.worksheet.specs.RanLoops.{times_start, times_turn}
use Rattle.worksheet.specs.StoredSharings.{sharings_start, sharings_turn, sharings_end, sharings_unzipped}
use Rattle.masked_comparison.specs.Comparison.{select_all}
use Rattle.masked_comparison.proofs.selection.select_all.Goals as goal

-- ---- facts
pub loop-j-preserved : goal.loop-j-preserved
loop-j-preserved c =
    let l = c.loop-j in
    let mask = c.type_inv.ws l.j in
    sharings_turn l.invariant _ _ (omega arith) (λ cs.
    times_turn _ l.j (l.invariant.ran cs)
    (next_bits 64 c.args.ws.now l.j (record { lt = omega (arith, mask) }) c.select-o.ensures))

pub returns : goal.returns
unfolding select_all
returns c cs =
    let stored = c.loop-j.invariant in
    bind _ (sharings_end stored (omega arith) cs) (rw (sharings_unzipped stored refl) over)

pub loop-j-init : goal.loop-j-init
loop-j-init c = sharings_start (omega arith) (omega arith) (omega arith) (λ cs. times_start _)
