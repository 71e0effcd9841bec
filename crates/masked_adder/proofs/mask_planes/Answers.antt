-- The loop is the definition's own: the first i planes have taken the first i masks, and their shares stand in two
-- arrays.
use mathlib.Core.Path.{refl}
use native.Mathlib.Omega.{arith}
use Rattle.worksheet.specs.Ran.{bind, over, draws_word, next_word}
use Rattle.worksheet.specs.RanLoops.{times_start, times_turn}
use Rattle.worksheet.specs.StoredSharings.{sharings_start, sharings_turn, sharings_end}
use Rattle.masked_adder.specs.Adder.{mask_plane}
use Rattle.masked_adder.proofs.mask_planes.Goals as goal

-- ---- facts
pub loop-i-preserved : goal.loop-i-preserved
unfolding mask_plane
loop-i-preserved c =
    let l = c.loop-i in
    sharings_turn l.invariant _ _ (omega arith) (λ cs.
    times_turn _ l.i (l.invariant.ran cs)
    (next_word c.args.ws.now l.i (λ ws cs e.
    bind _ (draws_word e) (bind _ (c.enter_xor-e.ensures _ _) over))))

pub loop-i-init : goal.loop-i-init
loop-i-init c = sharings_start (omega arith) refl refl (λ cs. times_start _)

pub returns : goal.returns
returns c = sharings_end c.loop-i.invariant (omega arith)
