-- What is counted first is what decides: below 256 nothing is stored, and else the stream fills f.
use mathlib.Core.Bool.{Bool, true, false, cond}
use mathlib.Core.List.{List}
use mathlib.Core.Path.{◌≡◌, sym, ap, ◌∙◌}
use Prim.Native.Nat.{ℕ}
use native.Mathlib.Omega.{arith}
use borrow.Author.Tests.{le-leb, lt-leb}
use lib.ListN.{length}
use Rattle.sampling.specs.Sample.{accepted, full, sample_ntt}
use Rattle.sampling.specs.SampleAnswer.{answer_of}
use Rattle.sampling.proofs.sample_ntt.Goals as goal

-- ---- facts
-- what is stored where b says whether the stream is enough
abbrev stored : List ℕ → List ℕ → Bool → List ℕ
stored s f b = cond b (sample_ntt s) f

pub returns-then-count_accepted-lt256 : goal.returns-then-count_accepted-lt256
returns-then-count_accepted-lt256 c =
    let s = c.args.stream.now in
    let short : full s ≡ false =
    lt-leb 256 (length (accepted 280 s)) (omega (arith, c.count_accepted.ensures)) in
    record { value = sym (ap answer_of short); f_after = sym (ap (stored s c.args.f.now) short) }

pub returns : goal.returns
returns c =
    let fill = c.fill_ntt.ensures in
    let s = c.args.stream.now in
    let enough : full s ≡ true =
    le-leb 256 (length (accepted 280 s)) (omega (arith, c.count_accepted.ensures)) in
    record { value = fill.answer; f_after = fill.holds enough ∙ sym (ap (stored s c.args.f.now) enough) }
