-- A part of a strip whose start the code counts.
use mathlib.Core.Path.{◌≡◌}
use mathlib.Core.List.{List}
use Prim.Native.Nat.{ℕ, ◌+◌, ◌-◌}
use lib.ListN.{length, take, drop}
use Rattle.worksheet.specs.declared.Recorder.{Recorder}
use Rattle.worksheet.specs.Prog.{Prog}
use Rattle.worksheet.specs.Ran.{Ran, part_words}

-- a program that is lent `&ws[i..]`, where the count i is j, and draws n masks
pub part_from : {A : Type 0} {q : Prog A} {r r' : Recorder} {a : A} {i j : ℕ} {cs cs' : List ℕ} (ws : List ℕ) → i ≡ j
    → (n : ℕ)
    → Ran q r (take (length ws - i) (drop i ws)) cs a r' (drop n (take (length ws - i) (drop i ws))) cs'
    → Ran q r (drop j ws) cs a r' (drop (j + n) ws) cs'
part_from {i = i} ws e n h = rw e at (part_words ws i n h)
