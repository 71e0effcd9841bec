-- Turn by turn f's front holds what the definition has accepted so far, as far as there is room; all places are taken
-- exactly where 256 are accepted.
use mathlib.Core.Path.{◌≡◌, sym, ap, ap₂, ◌∙◌}
use mathlib.Core.Bool.{Bool}
use mathlib.Core.List.{List, ◌++◌}
use Prim.Native.Nat.{ℕ}
use borrow.Author.Tests.{leb-true, eq-eqb, ne_eqb}
use lib.Dec.{eqb}
use lib.ListN.{length}
use Rattle.sampling.specs.Sample.{kept, accepted, full, sample_ntt}
use Rattle.sampling.specs.SampleAnswer.{answer_of}
use Rattle.sampling.specs.Results.{Sampling}
use Rattle.sampling.specs.SampleLaws.{accepted_turn}
use Rattle.sampling.specs.Collect.{Collected, collected_start, collected_as, collected_end, collected_taken}
use Rattle.sampling.proofs.Groups.{reading_start, reading_turn, reading_end, first, second}
use Rattle.sampling.proofs.fill_ntt.Goals as goal

-- ---- facts
pub loop-b-init : goal.loop-b-init
unfolding accepted
loop-b-init c =
    let all = c.chunks_exact-b-items.ensures in
    rw c.into_iter-b-iterator.ensures.into_iter_gives
    (reading_start all.size all.rest (collected_start c.requires.1))

pub loop-b-preserved : goal.loop-b-preserved
loop-b-preserved c =
    let s = c.args.stream.now in
    let r = c.loop-b.invariant in
    let i = r.groups in
    let l = accepted i s in
    let steps = c.in-Some.ensures.steps in
    let b = c.in-Some.b.now in
    let d1 = c.d1_of.ensures ∙ first r b _ steps.1.0 steps.1.1 in
    let d2 = c.d2_of.ensures ∙ second r b _ steps.1.0 steps.1.1 in
    let e = ap₂ (λ (x y : ℕ). (l ++ kept x) ++ kept y) d1 d2 ∙ sym (accepted_turn i s) in
    reading_turn r b _ steps.1.0 steps.1.1 steps.0
    (collected_as e (c.keep-k-in-loop-b.ensures _ (c.keep-k.ensures l r.so_far)))

-- what all groups leave, by whether all places are taken
sampled : (s : List ℕ) {f : List ℕ} {i k : ℕ} {b : Bool} → Collected (accepted i s) f k → i ≡ 280 → eqb k 256 ≡ b
    → Sampling (full s) (sample_ntt s) (answer_of b) f
unfolding sample_ntt
sampled s c g t =
    let all = collected_as (ap (λ (i : ℕ). accepted i s) g) c in
    let e = sym t ∙ collected_taken all in
    record { answer = ap answer_of e; holds = λ h. collected_end all (leb-true 256 (length (accepted 280 s)) h) }

pub returns-then-k-eq256 : goal.returns-then-k-eq256
returns-then-k-eq256 c =
    let r = c.loop-b.invariant in
    sampled c.args.stream.now r.so_far (reading_end r c.in-None.ensures.steps.1.0 c.requires.0)
    (eq-eqb _ 256 c.if-k-eq256.true)

pub returns-else-k-eq256 : goal.returns-else-k-eq256
returns-else-k-eq256 c =
    let r = c.loop-b.invariant in
    sampled c.args.stream.now r.so_far (reading_end r c.in-None.ensures.steps.1.0 c.requires.0)
    (ne_eqb _ 256 c.if-k-eq256.false)
