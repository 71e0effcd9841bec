-- Each group adds as many as the definition keeps of its two numbers.
use mathlib.Core.Path.{◌≡◌}
use Prim.Native.Nat.{◌≤◌, ◌*◌}
use lib.ListN.{length}
use Rattle.sampling.specs.Sample.{accepted}
use Rattle.sampling.proofs.Groups.{Reading}
use Rattle.sampling.proofs.count_accepted.Given as goal

-- n numbers counted
abbrev pub invariant-loop-b : goal.invariant-loop-b
invariant-loop-b l =
    Reading l.stream (λ i. (l.n ≤ 2 * i) × (l.n ≡ length (accepted i l.stream))) l.b-iterator.size l.b-iterator.rest.now
