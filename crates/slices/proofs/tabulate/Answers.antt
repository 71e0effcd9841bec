-- Turn i puts what f gives of i at place i, so that after one turn a place each element is what f gave of its place.
use Rattle.std.proofs.Common.{arith}
use Rattle.words.specs.TabLaws.{tab_of}
use Rattle.slices.proofs.tabulate.Goals as goal

pub returns : goal.returns
returns g c v gives =
    let done = c.loop-i.invariant in
    tab_of (v 0) _ _ done.0 (λ k h. gives k _ h (done.1 k (omega arith) (v 0)))
