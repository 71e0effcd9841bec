-- Chi on rows that are read from two states: it runs as on the rows of the states themselves.
use mathlib.Core.Path.{◌≡◌}
use mathlib.Core.List.{List}
use Prim.Native.Nat.{ℕ}
use Rattle.keccak.specs.declared.row.Row.{Row}
use Rattle.worksheet.specs.declared.Recorder.{Recorder}
use Rattle.worksheet.specs.Shares.{Shares}
use Rattle.worksheet.specs.Ran.{Ran}
use Rattle.masked_keccak.specs.SharedRows.{shared_row, masked_chi_row}

pub rows_ran : {x y x' y' : Row} {r r' : Recorder} {ws ws' cs : List ℕ} {o : List Shares}
    → x ≡ x' → y ≡ y' → Ran (masked_chi_row (shared_row x y)) r ws cs o r' ws' cs
    → Ran (masked_chi_row (shared_row x' y')) r ws cs o r' ws' cs
rows_ran e g h = rw (e, g) at h
