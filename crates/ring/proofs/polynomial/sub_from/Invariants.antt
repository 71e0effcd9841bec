-- Turn by turn one coefficient of f becomes the difference's; that g's is reduced first changes nothing modulo q.
use Rattle.std.proofs.Common.{length, get_or}
use Rattle.words.specs.Fill.{Replaced}
use Rattle.ring.specs.Polynomial.{minus}
use Rattle.ring.proofs.polynomial.sub_from.Given as goal

-- i coefficients done
abbrev pub invariant-loop-i : goal.invariant-loop-i
invariant-loop-i l = Replaced (length l.initial.f)
    (λ i. minus (get_or l.initial.f i 0) (get_or l.g i 0)) 0 l.initial.f l.i l.f
