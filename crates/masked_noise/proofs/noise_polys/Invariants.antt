-- Turn i makes noise polynomial n + i with the words and coefficients of its own, and writes it at place i.
use Prim.Native.Nat.{ℕ, ◌+◌}
use Rattle.worksheet.specs.SharedList.{shared_list}
use Rattle.stages.specs.Worksheet.{noise_poly}
use Rattle.stages.proofs.StoredRun.{Written}
use Rattle.stages.proofs.StoredRun.{OnBoth}
use Rattle.masked_noise.proofs.noise_polys.Given as goal

-- i polynomials made
abbrev pub invariant-loop-i : goal.invariant-loop-i
invariant-loop-i l =
    let turn = λ (j : ℕ). noise_poly l.eta (shared_list l.r0 l.r1) (l.n + j) in
    Written (λ t. t) (OnBoth turn l.words l.coeffs l.k l.initial.rec l.ws l.cs) 256 l.k
    l.f0 l.f1 l.rec l.i
