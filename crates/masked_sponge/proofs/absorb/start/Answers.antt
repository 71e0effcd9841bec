-- The lanes are the first 25 masks of the strip, and one state serves as both shares, since both take the same masks.
use Rattle.std.proofs.lemmas.List.{get_or-take}
use Rattle.words.specs.TabLaws.{tab_of}
use Rattle.masked_sponge.proofs.MaskedLanes.{start-draws}
use Rattle.masked_sponge.proofs.absorb.start.Goals as goal

pub returns : goal.returns
returns c =
    let copied = c.copy_from_slice.ensures in
    start-draws (tab_of 0 _ 25 copied.len (λ i h. rw copied.after (get_or-take 25 _ i 0 h)))
