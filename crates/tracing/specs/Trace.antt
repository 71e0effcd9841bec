-- What the trace of step t answers and hands back, for any rows of refusals before the run, any entries and any count n
-- of steps.
use Rattle.std.specs.Prelude.{not, List, [], ◌∷◌, ◌++◌, ℕ, ltb, get_or}
use Rattle.refusals.specs.declared.Refusal.TheVariants.{NoSuchStep}
use Rattle.refusals.specs.Refusals.{Answer, Row, row, answer}

-- the rows, then row 8, which applies where the run has no step t
unfoldable pub step_answer : List Row → ℕ → ℕ → Answer
step_answer rows n t = answer (rows ++ row (not (ltb t n)) NoSuchStep ∷ [])

unfoldable pub step_value : List ℕ → ℕ → ℕ
step_value entries t = get_or entries t 0
