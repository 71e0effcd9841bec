-- A wrong length is row 1 and a stream that is too short row 7; SampleNTT says which, and leaves out as it was where
-- it gives up.
use mathlib.Core.Path.{◌≡◌, refl, ap}
use mathlib.Core.Bool.{Bool, not}
use mathlib.Core.List.{List, [], ◌∷◌}
use Prim.Native.Nat.{ℕ}
use lib.ListN.{length}
use Rattle.refusals.specs.Same.{same}
use Rattle.refusals.specs.declared.Refusal.TheVariants.{WrongLength}
use Rattle.refusals.specs.Refusals.{lent}
use Rattle.refusals.specs.RefusalLaws.{LengthsTested, lengths_tested, row1_refused, row1_sized, row1_exact}
use Rattle.mlkem.specs.Calls.{sample_answer}
use Rattle.mlkem.specs.CallLaws.{sample_refused}
use Rattle.mlkem.proofs.Sampled.{stream-sampled}
use Rattle.mlkem.proofs.stream.sample.Goals as goal

-- row 1's test, as `exact` makes it
row1 : (stream out : List ℕ) {t : Bool}
    → t ≡ same (length stream ∷ length out ∷ []) (840 ∷ 256 ∷ [])
    → LengthsTested (lent stream 840 ∷ lent out 256 ∷ []) t
row1 stream out e = lengths_tested _ e refl

pub returns-then-not-exact : goal.returns-then-not-exact
unfolding sample_answer
returns-then-not-exact c =
    let s = c.args in
    let r = row1 s.stream.now s.out.now c.exact.ensures in
    sample_refused WrongLength (row1_refused r _ (ap not c.if-not-exact.true))

pub sample_ntt-requires : goal.sample_ntt-requires
sample_ntt-requires c =
    let s = c.args in
    let e = row1_exact (row1 s.stream.now s.out.now c.exact.ensures) (ap not c.if-not-exact.false) in
    (e.0, e.1.0)

pub returns : goal.returns
returns c =
    let s = c.args in
    let r = row1 s.stream.now s.out.now c.exact.ensures in
    let n = c.sample_ntt.ensures in
    stream-sampled (row1_sized r (ap not c.if-not-exact.false)) n.value n.f_after
