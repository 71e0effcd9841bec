-- Turn i makes bit i of the message a coefficient with mask coefficient i, and stores its two shares at place i.
use Rattle.worksheet.specs.Prog.{coeff, times}
use Rattle.worksheet.specs.Ran.{Draws}
use Rattle.worksheet.specs.SharedList.{shared_list}
use Rattle.worksheet.specs.StoredSharings.{StoredSharings}
use Rattle.masked_sampler.specs.Coefficient.{bit_to_coeff}
use Rattle.stages.specs.Moves.{string_bit}
use Rattle.masked_encryption.proofs.message.stage4.Given as goal

-- i coefficients made
abbrev pub invariant-loop-i : goal.invariant-loop-i
invariant-loop-i l =
    StoredSharings
    (λ n ys r. Draws coeff n (times n (λ j. bit_to_coeff 1665 (string_bit (shared_list l.m0 l.m1) j)))
    l.initial.rec l.cs ys r)
    256 256 l.mu0 l.mu1 l.rec l.i
