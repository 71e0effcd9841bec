-- What a recorded run that is told a step number or none, as a recorder is (`left`: 0 none, t + 1 step t), answers and
-- hands back, for any rows of refusals before the run, any entries and any count n of steps.
use Rattle.std.specs.Prelude.{not, cond, List, [], ◌∷◌, ◌++◌, ℕ, ◌+◌, leb, ltb}
use Rattle.worksheet.specs.Recording.{note_all}
use Rattle.refusals.specs.declared.Refusal.TheVariants.{NoSuchStep}
use Rattle.refusals.specs.Refusals.{Answer, Row, row, answer}

-- the rows, then row 8, which applies where `left` is above n
unfoldable pub told_answer : List Row → ℕ → ℕ → Answer
told_answer rows n left = answer (rows ++ row (not (leb left n)) NoSuchStep ∷ [])

-- what the recorder keeps
unfoldable pub told_value : ℕ → List ℕ → ℕ
told_value left entries = (note_all (record { left = left; value = 0 }) entries).value

-- what is told for step t of n: a step past the end is told as one past it
abbrev pub left_of : ℕ → ℕ → ℕ
left_of t n = cond (ltb t n) (t + 1) (n + 1)
