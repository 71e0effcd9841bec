-- t times y, transformed back, plus e2 and mu, call by call as the definition says.
use mathlib.Core.Path.{refl, ap, ap₂, ◌∙◌}
use Rattle.ring.specs.Polynomial.{add}
use Rattle.transform.specs.Transform.{inverse_ntt}
use Rattle.masked_encryption_passes.specs.Passes.{v_pass}
use Rattle.vectors.specs.VectorLaws.{dot_whole}
use Rattle.masked_encryption_passes.proofs.v_pass.Goals as goal

pub returns : goal.returns
unfolding v_pass
returns c =
    let k = c.args.k in
    let product = c.inverse_ntt.ensures ∙ ap inverse_ntt (c.dot.ensures ∙ dot_whole k _ _) in
    c.add_to-2.ensures ∙ ap₂ add (c.add_to.ensures ∙ ap₂ add product refl) refl
