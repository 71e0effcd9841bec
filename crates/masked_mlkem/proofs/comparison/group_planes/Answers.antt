-- Part g becomes the planes of group g of f, whose number i is number 64 g + i of f.
use mathlib.Core.Path.{sym, ◌∙◌}
use Prim.Native.Nat.{◌+◌, ◌-◌, ◌*◌}
use borrow.Author.Rules.{rules}
use lib.ListN.{get_or, take, drop}
use Rattle.words.specs.Plane.{plane}
use Rattle.words.specs.Tab.{tab}
use Rattle.vectors.specs.VectorLaws.{concat_cong}
use Rattle.stages.specs.Worksheet.{planes_of}
use Rattle.stages.specs.FlattenLaws.{flatten-tab}
use Rattle.masked_mlkem.proofs.Compared.{group_planes}
use Rattle.masked_mlkem.proofs.comparison.group_planes.Goals as goal

pub returns : goal.returns
unfolding planes_of
returns c =
    let f = c.args.f.now in
    let d = c.args.d in
    c.write_parts.ensures (λ g. tab d (plane 64 (λ i. get_or (take (64 * g + 64 - 64 * g) (drop (64 * g) f)) i 0)))
    (λ g part left h o p. search rules)
    ∙ concat_cong 4 (λ g h. group_planes d g f)
    ∙ sym (flatten-tab 4 _)
