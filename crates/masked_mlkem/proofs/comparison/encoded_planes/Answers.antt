-- The bytes are decoded first, and planes depend on the numbers alone.
use mathlib.Core.Path.{ap, ◌∙◌}
use Rattle.stages.specs.Worksheet.{planes_of}
use Rattle.masked_mlkem.proofs.comparison.encoded_planes.Goals as goal

pub returns : goal.returns
returns c =
    c.group_planes.ensures ∙ ap (planes_of c.args.d) c.byte_decode.ensures
