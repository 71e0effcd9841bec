-- The calls are the definition's steps: both shares' fixed points, and the adder, which reads d + 13 planes of each and
-- no others.
use Prim.Native.Nat.{◌+◌}
use Rattle.words.specs.Fill.{filled_at}
use Rattle.worksheet.specs.Ran.{bind, over}
use Rattle.masked_adder.proofs.AdderLaws.{adder_cong}
use Rattle.masked_compression.specs.Compression.{masked_compress}
use Rattle.masked_compression.proofs.masked_compress.Goals as goal

-- ---- facts
pub returns : goal.returns
unfolding masked_compress
returns c cs =
    let n = c.args.d + 13 in
    let planes = adder_cong n (filled_at c.bit_planes-x.ensures 0) (filled_at c.bit_planes-y.ensures 0) in
    bind _ (c.fixed_points-a.ensures _ cs)
    (bind _ (c.fixed_points-b.ensures _ cs) (bind _ (rw planes at (c.adder.ensures cs)) over))
