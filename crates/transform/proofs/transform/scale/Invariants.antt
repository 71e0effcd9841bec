-- Turn by turn one coefficient is multiplied by z, by `multiple`; the others are still as they were.
use Prim.Native.Nat.{◌*◌, ◌%◌}
use lib.ListN.{get_or}
use Rattle.words.specs.Fill.{Replaced}
use Rattle.words.specs.Residue.{q}
use Rattle.transform.proofs.transform.scale.Given as goal

-- so many coefficients done
abbrev pub invariant-loop-x : goal.invariant-loop-x
invariant-loop-x l = Replaced 256 (λ i. get_or l.initial.f i 0 * l.z % q) 0 l.initial.f l.x-index l.f
