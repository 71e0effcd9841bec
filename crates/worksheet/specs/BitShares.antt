-- Two shares of a bit.
use Rattle.std.specs.Prelude.{◌<◌}
use Rattle.worksheet.specs.Shares.{Shares}

pub record BitShares (z : Shares) : Type 0 where
  pub bit0 : z.s0 < 2
  pub bit1 : z.s1 < 2
