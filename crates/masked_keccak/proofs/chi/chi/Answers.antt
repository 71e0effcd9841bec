-- Chi in lane order is chi row by row, the five calls are its five rows, and each draws the next five masks of the
-- strip.
use Prim.Native.Nat.{ℕ, ◌-◌, ◌≤◌}
use mathlib.Core.List.{List}
use native.Mathlib.Omega.{arith}
use lib.ListN.{length, take, drop, length-take, length-drop}
use Rattle.words.specs.Tab.{tab}
use Rattle.worksheet.specs.Ran.{bind, over, part_words}
use Rattle.worksheet.specs.Zip.{zip}
use Rattle.masked_keccak.specs.SharedRows.{masked_chi_rows, masked_chi_rows_lem}
use Rattle.masked_keccak.proofs.ReadRows.{rows_ran}
use Rattle.masked_keccak.proofs.chi.chi.Goals as goal

-- ---- facts
-- five masks stand in the strip from i on
fits : (ws : List ℕ) (i : ℕ) → 25 ≤ length ws → i ≤ 20 → 5 ≤ length (take (length ws - i) (drop i ws))
fits ws i e h = simp (length-take, length-drop) (omega arith)

pub returns : goal.returns
unfolding masked_chi_rows zip tab
returns c cs =
    let ws = c.args.ws.now in
    let ran0 = c.chi_row-r0.ensures cs in
    let ran1 = part_words ws 5 5 (c.chi_row-r1.ensures cs) in
    let ran2 = part_words ws 10 5 (c.chi_row-r2.ensures cs) in
    let ran3 = part_words ws 15 5 (c.chi_row-r3.ensures cs) in
    let ran4 = part_words ws 20 5 (c.chi_row-r4.ensures cs) in
    rw (masked_chi_rows_lem, c.from_rows-s0.ensures, c.from_rows-s1.ensures)
    (bind _ (rows_ran c.row_at.ensures c.row_at-2.ensures ran0)
    (bind _ (rows_ran c.row_at-3.ensures c.row_at-4.ensures ran1)
    (bind _ (rows_ran c.row_at-5.ensures c.row_at-6.ensures ran2)
    (bind _ (rows_ran c.row_at-7.ensures c.row_at-8.ensures ran3)
    (bind _ (rows_ran c.row_at-9.ensures c.row_at-10.ensures ran4) over)))))

pub chi_row-r2-requires : goal.chi_row-r2-requires
chi_row-r2-requires c = fits c.args.ws.now 10 c.requires (omega arith)

pub chi_row-r3-requires : goal.chi_row-r3-requires
chi_row-r3-requires c = fits c.args.ws.now 15 c.requires (omega arith)

pub chi_row-r4-requires : goal.chi_row-r4-requires
chi_row-r4-requires c = fits c.args.ws.now 20 c.requires (omega arith)
