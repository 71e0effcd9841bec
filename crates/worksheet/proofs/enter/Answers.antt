-- The definition notes its one entry as the code's call of note does, and draws nothing.
use Rattle.worksheet.specs.Ran.{enters}
use Rattle.worksheet.proofs.enter.Goals as goal

pub returns : goal.returns
returns = (λ c ws cs. rw c.note.ensures enters)
