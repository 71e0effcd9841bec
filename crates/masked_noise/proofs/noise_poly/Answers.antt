-- Of 24 words, the most that a width needs, the first 8 eta are lent.
use native.Mathlib.Omega.{arith}
use lib.ListN.{length-take}
use Rattle.masked_noise.proofs.noise_poly.Goals as goal

pub noise_from-requires : goal.noise_from-requires
noise_from-requires c =
    let g = c.requires in
    let w = g.width.most in
    record {
      noise = g;
      bits = record { long0 = simp length-take (omega arith); long1 = simp length-take (omega arith) };
    }
