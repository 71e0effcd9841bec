-- Either call samples the coefficient's bits at the width asked for, which in the first is 2.
use Prim.Native.Nat.{ℕ}
use mathlib.Core.Path.{◌≡◌}
use mathlib.Core.List.{List}
use Rattle.worksheet.specs.SharedList.{SharedList, shared_list}
use Rattle.masked_sampler.specs.Lent.{SamplerLent}
use Rattle.masked_noise.specs.Lent.{CoefficientInput}
use Rattle.masked_noise.proofs.Sampled.{sampled}
use Rattle.masked_noise.proofs.sample_one.Goals as goal

-- ---- facts
lent : {eta i : ℕ} {o : SharedList} {cs : List ℕ} → CoefficientInput eta i o cs → SamplerLent eta cs
lent g =
    let w = g.bits.width in
    record { positive = w.least; width = w.most; masks = g.coeffs.enough; below = g.coeffs.below }

two : {eta i : ℕ} {o : SharedList} {cs : List ℕ} → eta ≡ 2 → CoefficientInput eta i o cs → CoefficientInput 2 i o cs
two e g = rw e at g

pub returns-then-eta-eq2 : goal.returns-then-eta-eq2
returns-then-eta-eq2 c =
    let a = c.args in
    let b = c.coefficient_bits.ensures in
    rw c.if-eta-eq2.true (λ ws.
    sampled 2 (shared_list a.o0.now a.o1.now) _ b.bits0 b.bits1 (c.sampler.ensures ws))

pub returns : goal.returns
returns c ws =
    let a = c.args in
    let b = c.coefficient_bits-2.ensures in
    sampled a.eta (shared_list a.o0.now a.o1.now) _ b.bits0 b.bits1 (c.sampler-2.ensures ws)

pub coefficient_bits-requires : goal.coefficient_bits-requires
coefficient_bits-requires c = (two c.if-eta-eq2.true c.requires).bits

pub sampler-requires : goal.sampler-requires
sampler-requires c = lent (two c.if-eta-eq2.true c.requires)

pub coefficient_bits-requires-2 : goal.coefficient_bits-requires-2
coefficient_bits-requires-2 c = c.requires.bits

pub sampler-requires-2 : goal.sampler-requires-2
sampler-requires-2 c = lent c.requires
