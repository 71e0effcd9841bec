-- The code's table holds the roots that the layers take; then every coefficient is divided by 128.
use mathlib.Core.Path.{ap, ◌∙◌}
use mathlib.Core.List.{List}
use Prim.Native.Nat.{ℕ, ◌*◌, ◌%◌}
use native.Mathlib.Omega.{arith}
use lib.ListN.{get_or}
use Rattle.words.specs.Tab.{tab}
use Rattle.words.specs.Residue.{q}
use Rattle.transform.specs.Transform.{inverse_ntt}
use Rattle.transform.proofs.Powers.{zetas-tab}
use Rattle.transform.proofs.transform.inverse_ntt.Goals as goal

pub returns : goal.returns
unfolding inverse_ntt
returns c =
    c.scale.ensures
    ∙ ap (λ (f : List ℕ). tab 256 (λ i. get_or f i 0 * 3303 % q)) c.inverse_layers.ensures

pub inverse_layers-requires : goal.inverse_layers-requires
inverse_layers-requires c = (omega arith, zetas-tab)
