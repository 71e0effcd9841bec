-- The three calls are the definition's gates; a mask word of 64 bits is its own low 64 bits, so that r is what And
-- draws.
use mathlib.Core.Path.{refl, ap, ◌∙◌}
use borrow.Author.Rules.{rules}
use Rattle.words.specs.Word.{ones, low}
use Rattle.words.specs.WordLaws.{low_of_bits}
use Rattle.worksheet.specs.Ran.{bind}
use Rattle.masked_keccak.specs.MaskedKeccak.{chi_lane}
use Rattle.masked_keccak.proofs.chi.chi_lane.Goals as goal

pub returns : goal.returns
unfolding chi_lane ones
returns c ws cs e =
    bind _ (c.masked_not-n.ensures 64 refl _ _)
    (bind _ (c.masked_and-z.ensures 64 _ _ (ap (low 64) e ∙ low_of_bits (record { lt = search rules })))
    (c.masked_xor.ensures _ _))
