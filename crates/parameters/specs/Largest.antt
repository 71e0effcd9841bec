-- The largest sizes within the bounds, for which local arrays have room: products of numbers that are bounded.
use Rattle.std.specs.Prelude.{◌*◌, ◌≤◌}
use Rattle.std.proofs.Common.{mul-le-mul, arith}
use Rattle.parameters.specs.declared.Parameters.{Parameters}
use Rattle.parameters.specs.Lengths.{ct_bytes}
use Rattle.parameters.specs.Fits.{Fits}

module _ {p : Parameters} (fits : Fits p) where
  -- the matrix's polynomials
  pub matrix_most : p.k * p.k ≤ 16
  matrix_most = mul-le-mul fits.rank.most fits.rank.most

  -- the first part of a ciphertext, in bits for each of a polynomial's coefficients, and in planes of 64 coefficients
  pub depths_most : p.du * p.k ≤ 44
  depths_most = mul-le-mul fits.du.most fits.rank.most

  pub planes_most : p.k * (4 * p.du) ≤ 4 * 44
  planes_most = let h : 4 * p.du ≤ 44 = omega (arith, fits.du.most) in mul-le-mul fits.rank.most h

  -- a whole ciphertext
  pub ct_bytes_most : ct_bytes p ≤ 1568
  ct_bytes_most = omega (arith, depths_most, fits.dv.most)
