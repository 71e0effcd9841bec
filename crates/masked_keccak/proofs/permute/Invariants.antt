-- The loop is the definition's own: i rounds have drawn the masks of i rounds, and each round is lent the table.
use Prim.Native.Nat.{ℕ, ◌-◌, ◌*◌, ◌≤◌}
use mathlib.Core.Path.{◌≡◌}
use mathlib.Core.List.{List}
use lib.ListN.{drop}
use Rattle.words.specs.Tab.{tab}
use Rattle.keccak_constants.specs.RoundConstants.{constant}
use Rattle.worksheet.specs.declared.Recorder.{Recorder}
use Rattle.worksheet.specs.Prog.{loop}
use Rattle.worksheet.specs.Ran.{Ran}
use Rattle.worksheet.specs.SharedList.{SharedList}
use Rattle.masked_keccak.specs.MaskedKeccak.{masked_round, round_words}
use Rattle.masked_keccak.specs.SharedRows.{shared_state}
use Rattle.masked_keccak.proofs.permute.Given as goal

-- i rounds done, from the state s and the recorder r to t and r'
pub record Rounds (constants ws : List ℕ) (s : SharedList) (r : Recorder) (i : ℕ) (t : SharedList)
    (r' : Recorder) : Type 0 where
  pub within : i ≤ 24
  pub table : constants ≡ tab 24 constant
  pub ran : (cs : List ℕ) → Ran (loop i masked_round s) r ws cs t r' (drop (round_words * i) ws) cs

abbrev pub invariant-loop-i : goal.invariant-loop-i
invariant-loop-i l =
    let a = l.initial.o in
    Rounds l.constants l.ws (shared_state a.value.s0 a.value.s1) a.rec l.i
    (shared_state l.o.value.s0 l.o.value.s1) l.o.rec

abbrev pub decreases-loop-i : goal.decreases-loop-i
decreases-loop-i l = 24 - l.i
