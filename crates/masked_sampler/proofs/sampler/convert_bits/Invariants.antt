-- The loop is the definition's own: the first j conversions have run on the first j masks, and stand in two arrays.
use Prim.Native.Nat.{◌*◌}
use Rattle.worksheet.specs.Prog.{coeff, times}
use Rattle.worksheet.specs.Ran.{Draws}
use Rattle.worksheet.specs.StoredSharings.{StoredSharings}
use Rattle.masked_sampler.specs.Coefficient.{bit_to_coeff, weight}
use Rattle.masked_sampler.specs.Bit.{bit_of}
use Rattle.masked_sampler.proofs.sampler.convert_bits.Given as goal

-- j bits converted, j masks drawn
abbrev pub invariant-loop-j : goal.invariant-loop-j
invariant-loop-j l = StoredSharings
    (λ n ys r. Draws coeff n (times n (λ k. bit_to_coeff (weight l.eta k) (bit_of l.b k))) l.initial.rec l.cs ys r)
    (2 * l.eta) 6 l.s0 l.s1 l.rec l.j
