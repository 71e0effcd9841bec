-- Turn g draws the masks of group g and writes its d planes behind those of the groups before it.
use Prim.Native.Nat.{◌+◌, ◌*◌}
use Rattle.worksheet.specs.SharedList.{shared_list, shared_at}
use Rattle.worksheet.specs.Zip.{zip}
use Rattle.masked_compression.specs.Compression.{masked_compress}
use Rattle.stages.proofs.StoredRun.{Written}
use Rattle.stages.proofs.StoredRun.{OnWords}
use Rattle.masked_polynomials.proofs.groups.compress_groups.Given as goal

-- g groups written
abbrev pub invariant-loop-g : goal.invariant-loop-g
invariant-loop-g l = Written (zip l.d)
    (OnWords (λ j. masked_compress l.d (λ i. shared_at (shared_list l.f0 l.f1) (64 * j + i))) (3 * l.d + 38) l.n
    l.initial.rec l.ws)
    l.d l.n l.out0 l.out1 l.rec l.g
