-- The first i coefficients are reduced and the others are still the old ones (Mapped), so turn i reduces an old one.
use Prim.Native.Nat.{◌%◌}
use Rattle.words.specs.Fill.{Mapped}
use Rattle.buffers.proofs.values.reduce.Given as goal

-- i coefficients reduced
abbrev pub invariant-loop-x : goal.invariant-loop-x
invariant-loop-x l = Mapped (λ x. x % 3329) 0 l.initial.f l.x-index l.f
