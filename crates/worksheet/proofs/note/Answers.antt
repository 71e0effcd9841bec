-- The three ways through the code are the three cases of `left`: none, the next entry, a later one.
use Rattle.std.proofs.Common.{rules}
use Rattle.worksheet.specs.Recording.{note_zero, note_one, note_more}
use Rattle.worksheet.proofs.note.Goals as goal

pub returns-in-0 : goal.returns-in-0
returns-in-0 c = note_zero _ _ _ c.in-0.is

pub returns-in-1 : goal.returns-in-1
returns-in-1 c = note_one _ _ _ c.in-1.is

pub returns-in_default : goal.returns-in_default
returns-in_default c = note_more _ _ _ (search rules) (search rules)
