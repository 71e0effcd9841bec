-- Turn by turn f's front holds what the definition has accepted so far, as far as there is room; all places are taken
-- exactly where 256 are accepted.
use Rattle.sampling.specs.Sample.{accepted}
use Rattle.sampling.specs.Collect.{Collected}
use Rattle.sampling.proofs.Groups.{Reading}
use Rattle.sampling.proofs.fill_ntt.Given as goal

-- k places of f taken
abbrev pub invariant-loop-b : goal.invariant-loop-b
invariant-loop-b l =
    Reading l.stream (λ i. Collected (accepted i l.stream) l.f l.k) l.b-iterator.size l.b-iterator.rest.now
