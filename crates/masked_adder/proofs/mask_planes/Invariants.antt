-- The loop is the definition's own: the first i planes have taken the first i masks, and their shares stand in two
-- arrays.
use lib.ListN.{get_or}
use Rattle.worksheet.specs.Prog.{word}
use Rattle.worksheet.specs.Ran.{Draws}
use Rattle.worksheet.specs.StoredSharings.{StoredSharings}
use Rattle.masked_adder.specs.Adder.{mask_planes}
use Rattle.masked_adder.proofs.mask_planes.Given as goal

-- i planes masked, i masks drawn
abbrev pub invariant-loop-i : goal.invariant-loop-i
invariant-loop-i l = StoredSharings
    (λ k ys r. Draws word k (mask_planes k (λ j. get_or l.x j 0)) l.initial.rec l.ws ys r)
    l.n 24 l.s0 l.s1 l.rec l.i
