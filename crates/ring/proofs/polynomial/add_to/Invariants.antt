-- Turn by turn one coefficient of f becomes the sum's; the others are still as they were.
use Rattle.std.proofs.Common.{◌+◌, ◌%◌, length, get_or}
use Rattle.words.specs.Fill.{Replaced}
use Rattle.words.specs.Residue.{q}
use Rattle.ring.proofs.polynomial.add_to.Given as goal

-- i coefficients done
abbrev pub invariant-loop-i : goal.invariant-loop-i
invariant-loop-i l = Replaced (length l.initial.f)
    (λ i. (get_or l.initial.f i 0 + get_or l.g i 0) % q) 0 l.initial.f l.i l.f
