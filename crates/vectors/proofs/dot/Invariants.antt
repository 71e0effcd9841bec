-- out starts as 0, and turn j adds the product of a's part start + step * j and b's part j, so that k turns add up
-- dot's sum.
use mathlib.Core.Path.{◌≡◌}
use Prim.Native.Nat.{◌+◌, ◌*◌}
use lib.ListN.{length, replicate}
use Rattle.words.specs.IterateLaws.{Reached}
use Rattle.ring.specs.Polynomial.{add}
use Rattle.transform.specs.Transform.{multiply_ntts}
use Rattle.vectors.specs.Vector.{parts}
use Rattle.vectors.proofs.dot.Given as goal

-- j products added
abbrev pub invariant-loop-j : goal.invariant-loop-j
invariant-loop-j l =
    (length l.out ≡ 256)
    × Reached l.k (λ j s. add s (multiply_ntts (parts 256 l.a (l.start + l.step * j)) (parts 256 l.b j)))
    (replicate 256 0) l.j l.out
