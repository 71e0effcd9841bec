-- The ciphertext's words go into share 0, and the fold draws the whole strip: the two runs follow each other.
use mathlib.Core.Path.{◌∙◌}
use mathlib.Core.List.{List, []}
use Prim.Native.Nat.{ℕ}
use lib.ListN.{get_or}
use Rattle.std.proofs.Common.{Fits, rules}
use Rattle.std.specs.Int.{w64}
use native.Mathlib.Omega.{arith}
use Rattle.stages.specs.Counts.{stage8_words}
use Rattle.masked_mlkem.proofs.Compared.{stage8_ran, bit_shares}
use Rattle.masked_mlkem.proofs.comparison.equal_bit.Goals as goal

-- share 0 once the words are added
abbrev differences : goal.After-all_zero → List ℕ
differences c = c.add_public-rec.new.w0

pub all_zero-requires : goal.all_zero-requires
unfolding stage8_words
all_zero-requires c =
    let p = c.requires.input in
    omega (arith, p)

pub returns : goal.returns
returns c =
    let a = c.args in
    let v = differences c in
    let fits : (j : ℕ) → Fits w64 (get_or v j 0) = search rules in
    let bit =
    bit_shares _ v a.planes1.now a.ws.now
    (record { at = λ j. (fits j).fits })
    (record { at = λ j. (c.type_inv.planes1 j).fits })
    (record { at = λ j. (c.type_inv.ws j).fits })
    (c.all_zero.ensures []) in
    record {
      ran =
          stage8_ran a.p a.c.now a.planes0.now a.planes1.now v (omega (arith, c.requires.input.fits))
          c.ciphertext_planes.ensures (c.ciphertext_planes.auto.out ∙ c.requires.public)
          (c.add_public-rec.ensures a.planes1.now) c.all_zero.ensures;
      bit0 = bit.0;
      bit1 = bit.1;
    }
