-- Each group adds as many as the definition keeps of its two numbers.
use mathlib.Core.Path.{refl, ap, ◌∙◌}
use mathlib.Core.List.{◌++◌}
use Prim.Native.Nat.{ℕ}
use native.Mathlib.Omega.{arith}
use lib.ListN.{length, length-append}
use Rattle.sampling.specs.Sample.{d₁, d₂, kept, accepted}
use Rattle.sampling.specs.SampleLaws.{accepted_turn}
use Rattle.sampling.proofs.Groups.{reading_start, reading_turn, reading_end, first, second}
use Rattle.sampling.proofs.count_accepted.Goals as goal

-- ---- facts
pub loop-b-init : goal.loop-b-init
unfolding accepted
loop-b-init c =
    let all = c.chunks_exact-b-items.ensures in
    rw c.into_iter-b-iterator.ensures.into_iter_gives (reading_start all.size all.rest (omega arith, refl))

pub overflow_add-n : goal.overflow_add-n
overflow_add-n c =
    let r = c.loop-b.invariant in
    record { fits = omega (arith, r.so_far.0, r.within, c.requires, c.accepts-n.ensures.most) }

pub overflow_add-n-in-loop-b : goal.overflow_add-n-in-loop-b
overflow_add-n-in-loop-b c =
    let r = c.loop-b.invariant in
    record {
      fits = omega (
        arith,
        r.so_far.0,
        r.within,
        c.requires,
        c.accepts-n.ensures.most,
        c.accepts-n-in-loop-b.ensures.most,
      );
    }

pub loop-b-preserved : goal.loop-b-preserved
loop-b-preserved c =
    let s = c.args.stream.now in
    let r = c.loop-b.invariant in
    let i = r.groups in
    let steps = c.in-Some.ensures.steps in
    let b = c.in-Some.b.now in
    let d1 = c.d1_of.ensures ∙ first r b _ steps.1.0 steps.1.1 in
    let d2 = c.d2_of.ensures ∙ second r b _ steps.1.0 steps.1.1 in
    let one = c.accepts-n.ensures.count ∙ ap (λ (x : ℕ). length (kept x)) d1 in
    let two = c.accepts-n-in-loop-b.ensures.count ∙ ap (λ (x : ℕ). length (kept x)) d2 in
    reading_turn r b _ steps.1.0 steps.1.1 steps.0 (
      omega (arith, r.so_far.0, c.accepts-n.ensures.most, c.accepts-n-in-loop-b.ensures.most),
      omega (
        arith,
        one,
        two,
        r.so_far.1,
        ap length (accepted_turn i s),
        length-append (accepted i s ++ kept (d₁ s i)) (kept (d₂ s i)),
        length-append (accepted i s) (kept (d₁ s i)),
      ),
    )

pub returns : goal.returns
returns c =
    let r = c.loop-b.invariant in
    let e = reading_end r c.in-None.ensures.steps.1.0 c.requires in
    r.so_far.1 ∙ ap (λ (i : ℕ). length (accepted i c.args.stream.now)) e
