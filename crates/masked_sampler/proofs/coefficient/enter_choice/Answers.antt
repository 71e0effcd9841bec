-- A list of two elements, read at a bit, is the choice between them.
use Prim.Native.Nat.{ℕ, zero, suc, ◌<◌}
use mathlib.Core.Bool.{cond}
use mathlib.Core.List.{[], ◌∷◌}
use mathlib.Core.Path.{◌≡◌, refl}
use native.Mathlib.Omega.{arith}
use lib.Dec.{eqb}
use lib.ListN.{get_or}
use Rattle.masked_sampler.proofs.coefficient.enter_choice.Goals as goal

getD-cond : (b t₀ t₁ : ℕ) → b < 2 → cond (eqb b 0) t₀ t₁ ≡ get_or (t₀ ∷ t₁ ∷ []) b 0
getD-cond zero t₀ t₁ h = refl
getD-cond (suc zero) t₀ t₁ h = refl
getD-cond (suc (suc b)) t₀ t₁ h = absurd (omega arith)

pub returns : goal.returns
returns c =
    let a = c.args in
    rw (getD-cond a.b0 a.t0 a.t1 c.requires) c.enter_coeff.ensures
