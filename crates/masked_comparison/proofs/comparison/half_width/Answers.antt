-- There are six widths, and each is tested.
use Prim.Native.Nat.{◌-◌, ◌/◌, ◌^◌}
use lib.Dec.{eqb, leb, eqb→eq, leb→le}
use Rattle.words.specs.TableLaws.{every_at}
use Rattle.masked_comparison.proofs.comparison.half_width.Goals as goal

pub returns : goal.returns
returns c =
    let j = c.args.j in (
      eqb→eq _ _ (every_at 6 (λ k. eqb (32 / 2 ^ k) (2 ^ (6 - 1 - k))) tt j c.requires),
      leb→le _ _ (every_at 6 (λ k. leb (32 / 2 ^ k) 32) tt j c.requires),
    )
