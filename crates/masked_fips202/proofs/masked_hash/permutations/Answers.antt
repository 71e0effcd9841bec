-- There are at most n / 8 whole blocks of n bytes, so that the sum of the three counts fits.
use Prim.Native.Nat.{◌-◌}
use native.Mathlib.Omega.{arith}
use Rattle.masked_fips202.proofs.MaskedHash.{blocks_le}
use Rattle.masked_fips202.proofs.masked_hash.permutations.Goals as goal

pub overflow_add-result : goal.overflow_add-result
overflow_add-result c = omega (arith, blocks_le c.args.rate c.args.n c.requires, c.ranges.n.fits)

pub overflow_add-result-2 : goal.overflow_add-result-2
overflow_add-result-2 c =
    let a = c.args in
    omega (
      arith,
      blocks_le a.rate a.n c.requires,
      c.ranges.n.fits,
      c.further.ensures,
      blocks_le a.rate (a.d - 1) c.requires,
      c.ranges.d.fits,
    )
