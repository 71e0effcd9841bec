-- Part i becomes the planes of polynomial i, which are the lists that are put one behind the other.
use mathlib.Core.Path.{◌≡◌, sym, ◌∙◌}
use borrow.Author.Rules.{rules}
use Prim.Native.Nat.{◌*◌}
use Rattle.codec.specs.Bytes.{byte_decode}
use Rattle.vectors.specs.Vector.{parts, concat}
use Rattle.stages.specs.Worksheet.{planes_of}
use Rattle.stages.specs.FlattenLaws.{flatten-tab}
use Rattle.masked_mlkem.proofs.comparison.first_planes.Goals as goal

pub returns : goal.returns
returns c =
    let d = c.args.d in
    let b = c.args.c.now in
    let written : c.write_parts.new.out ≡ concat c.args.k (λ i. planes_of d (byte_decode d (parts (32 * d) b i))) =
    search rules in
    written ∙ sym (flatten-tab c.args.k _)
