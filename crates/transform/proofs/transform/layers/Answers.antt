-- Seven layers one after the other are Algorithm 9's loop over len: each call has as many blocks as the loop has then.
use mathlib.Core.Path.{◌∙◌}
use Rattle.words.specs.Iterate.{iterate}
use Rattle.transform.specs.Transform.{ntt}
use Rattle.transform.proofs.Layers.{layer_is}
use Rattle.transform.proofs.transform.layers.Goals as goal

pub returns : goal.returns
unfolding ntt iterate
returns c =
    let e1 = c.layer_at.ensures ∙ layer_is 1 128 _ in
    let e2 = c.layer_at-2.ensures ∙ layer_is 2 64 _ in
    let e3 = c.layer_at-3.ensures ∙ layer_is 4 32 _ in
    let e4 = c.layer_at-4.ensures ∙ layer_is 8 16 _ in
    let e5 = c.layer_at-5.ensures ∙ layer_is 16 8 _ in
    let e6 = c.layer_at-6.ensures ∙ layer_is 32 4 _ in
    let e7 = c.layer_at-7.ensures ∙ layer_is 64 2 _ in
    cc
