-- The five calls are the definition's five turns, lane by lane, and each is handed the next mask of the strip.
use Rattle.words.specs.Tab.{tab}
use Rattle.worksheet.specs.Ran.{next_word}
use Rattle.worksheet.specs.RanLoops.{times_start, times_turn}
use Rattle.worksheet.specs.Zip.{zip}
use Rattle.masked_keccak.specs.SharedRows.{masked_chi_row}
use Rattle.masked_keccak.proofs.chi.chi_row.Goals as goal

pub returns : goal.returns
unfolding masked_chi_row zip tab
returns c cs =
    let ws = c.args.ws.now in
    times_turn _ 4
    (times_turn _ 3
    (times_turn _ 2
    (times_turn _ 1
    (times_turn _ 0 (times_start _) (next_word ws 0 c.chi_lane-z0.ensures))
    (next_word ws 1 c.chi_lane-z1.ensures))
    (next_word ws 2 c.chi_lane-z2.ensures))
    (next_word ws 3 c.chi_lane-z3.ensures))
    (next_word ws 4 c.chi_lane-z4.ensures)
