-- The sum of the products, its transform back and the difference are the definition's own steps.
use mathlib.Core.Path.{refl, ap, ap₂, ◌∙◌}
use Rattle.ring.specs.Polynomial.{sub}
use Rattle.transform.specs.Transform.{inverse_ntt}
use Rattle.vectors.specs.VectorLaws.{dot_whole}
use Rattle.masked_decryption.proofs.take_product.Goals as goal

pub returns : goal.returns
returns c =
    c.sub_from.ensures
    ∙ ap₂ sub refl
    (c.inverse_ntt.ensures ∙ ap inverse_ntt (c.dot.ensures ∙ dot_whole c.args.k _ _))
