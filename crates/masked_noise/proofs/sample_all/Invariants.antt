-- Turn i samples coefficient i with the next 2 eta masks and stores it.
use Prim.Native.Nat.{◌+◌, ◌*◌}
use Rattle.worksheet.specs.Prog.{coeff, times}
use Rattle.worksheet.specs.Ran.{Draws}
use Rattle.worksheet.specs.SharedList.{shared_list}
use Rattle.worksheet.specs.StoredSharings.{StoredSharings}
use Rattle.masked_sampler.specs.Coefficient.{sampler}
use Rattle.stages.specs.Moves.{string_bit}
use Rattle.masked_noise.proofs.sample_all.Given as goal

-- i coefficients sampled
abbrev pub invariant-loop-i : goal.invariant-loop-i
invariant-loop-i l = StoredSharings
    (λ m ys r.
    Draws coeff (2 * l.eta * m)
    (times m (λ k. sampler l.eta (λ j. string_bit (shared_list l.o0 l.o1) (2 * l.eta * k + j))))
    l.initial.rec l.cs ys r)
    256 256 l.f0 l.f1 l.rec l.i
