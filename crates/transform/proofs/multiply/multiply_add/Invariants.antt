-- Turn by turn one more pair of f g is added to s, with the constant that FIPS 203 gives it.
use mathlib.Core.Path.{◌≡◌}
use Prim.Native.Nat.{◌-◌}
use Rattle.words.specs.Tab.{tab}
use Rattle.transform.specs.Transform.{gamma}
use Rattle.transform.proofs.Products.{Added}
use Rattle.transform.proofs.multiply.multiply_add.Given as goal

-- i pairs added
abbrev pub invariant-loop-i : goal.invariant-loop-i
invariant-loop-i l = (l.z-items ≡ tab 128 gamma) × Added l.f l.g l.initial.s l.i l.s

abbrev pub decreases-loop-i : goal.decreases-loop-i
decreases-loop-i l = 128 - l.i
