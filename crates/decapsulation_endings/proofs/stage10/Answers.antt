-- The selection of four words is the definition itself.
use Rattle.stages.specs.Worksheet.{stage10}
use Rattle.decapsulation_endings.proofs.stage10.Goals as goal

pub returns : goal.returns
unfolding stage10
returns c cs = c.select_all.ensures cs
