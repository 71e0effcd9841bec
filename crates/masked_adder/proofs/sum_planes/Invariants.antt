-- The loop is the definition's own: the first i sum planes are made of the planes at the same places, and stand in two
-- arrays.
use Rattle.worksheet.specs.Prog.{times}
use Rattle.worksheet.specs.Ran.{Makes}
use Rattle.worksheet.specs.SharedList.{shared_list}
use Rattle.worksheet.specs.Zip.{zip}
use Rattle.worksheet.specs.StoredSharings.{StoredSharings}
use Rattle.masked_adder.specs.Adder.{at, sum_plane}
use Rattle.masked_adder.proofs.sum_planes.Given as goal

-- i sum planes made
abbrev pub invariant-loop-i : goal.invariant-loop-i
invariant-loop-i l = let x = zip l.n (shared_list l.a.s0 l.a.s1) in
    let y = zip l.n (shared_list l.b.s0 l.b.s1) in
    let z = zip l.n (shared_list l.c.s0 l.c.s1) in
    StoredSharings (λ k ys r. Makes (times k (λ j. sum_plane (at x j) (at y j) (at z j))) l.initial.rec ys r)
    l.n 24 l.s0 l.s1 l.rec l.i
