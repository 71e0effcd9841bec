-- The state's first lanes are copied, as many as there are places.
use Rattle.std.proofs.lemmas.List.{get_or-take}
use Rattle.words.specs.TabLaws.{tab_of}
use Rattle.masked_sponge.proofs.squeeze.U64Output.extract.Goals as goal

pub returns : goal.returns
returns c =
    let copied = c.copy_from_slice.ensures in
    tab_of 0 _ _ copied.len (λ i h. rw copied.after (get_or-take _ _ i 0 h))
