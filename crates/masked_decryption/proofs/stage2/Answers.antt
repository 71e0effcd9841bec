-- At depth 1 each of the four groups has one plane: the message's four words. Their masks are 164, computed.
use mathlib.Core.Path.{refl, ◌∙◌}
use Rattle.worksheet.specs.Ran.{bind, over}
use Rattle.worksheet.specs.Sharing.{none}
use Rattle.worksheet.specs.SharedList.{SharedList, shared_list}
use Rattle.worksheet.specs.SharedListLaws.{unzip-zip}
use Rattle.stages.specs.CountsTable.{fixed_counts}
use Rattle.stages.specs.Worksheet.{compress_poly, stage2}
use Rattle.stages.proofs.Laid.{flatten_zips}
use Rattle.stages.proofs.StoredRun.{ran_as}
use Rattle.masked_decryption.proofs.stage2.Goals as goal

-- the words that the call leaves
abbrev message : goal.After-slice_known-4-1 → SharedList
message c = shared_list c.compress_groups.new.out0 c.compress_groups.new.out1

pub compress_groups-requires : goal.compress_groups-requires
compress_groups-requires c =
    let p = c.requires in
    record { depth = p.depth; input = p.input; words = rw fixed_counts.stage2_words at p.words; out = p.out }

pub returns : goal.returns
unfolding stage2 compress_poly
returns c cs =
    let m = c.requires.out in
    rw fixed_counts.stage2_words
    (bind _ (ran_as refl (flatten_zips 1 4 (message c)) (bind _ (c.compress_groups.ensures cs) over))
    (rw (unzip-zip 4 (message c) none (c.compress_groups.auto.out0 ∙ m.long0)
    (c.compress_groups.auto.out1 ∙ m.long1)) over))
