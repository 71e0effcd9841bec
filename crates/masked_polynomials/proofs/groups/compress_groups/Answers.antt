-- Turn g draws the masks of group g and writes its d planes behind those of the groups before it.
use mathlib.Core.Path.{sym, ◌∙◌}
use Prim.Native.Nat.{◌+◌, ◌*◌, ◌^◌, ◌<◌}
use native.Mathlib.Nat.{le_refl, le_of_eq, le_trans, le-add_right}
use native.Mathlib.Omega.{arith}
use Rattle.worksheet.specs.SharedList.{SharedList, shared_list}
use Rattle.words.specs.Part.{part_fits, part_within}
use Rattle.masked_polynomials.proofs.Compressed.{group_part, compress_part}
use Rattle.stages.proofs.StoredRun.{written_start, written_turn, written_end, fits0, fits1}
use Rattle.stages.proofs.StoredRun.{words_start, words_turn, fits_words}
use Rattle.words.specs.Turn.{placed}
use Rattle.masked_polynomials.proofs.groups.compress_groups.Goals as goal

-- what the call leaves in the parts that it is lent
abbrev planes : goal.After-slice_known-in-loop-g-2-1 → SharedList
planes c = shared_list c.compress_group-rec.new.out0 c.compress_group-rec.new.out1

pub compress_group-rec-requires : goal.compress_group-rec-requires
compress_group-rec-requires c =
    let p = c.requires in
    let t = c.loop-g-test.true in
    compress_part 64 c.loop-g.invariant t p.depth p.input (part_fits 64 t)

pub loop-g-preserved : goal.loop-g-preserved
loop-g-preserved c =
    let g = c.compress_group-rec in
    let l = c.loop-g in
    let s = c.args in
    written_turn l.invariant (planes c).s0 (planes c).s1 c.loop-g-test.true g.auto.out0 g.auto.out1
    (words_turn l.invariant.ran (λ cs. rw (group_part s.d l.g s.f0.now s.f1.now) at (g.ensures cs)))

pub loop-g-init : goal.loop-g-init
loop-g-init c = let p = c.requires in written_start p.out.long0 p.out.long1 (words_start p.words)

pub overflow_mul-w : goal.overflow_mul-w
overflow_mul-w c =
    let r : (3 * c.args.d + 38) * c.args.n * 8 < 2 ^ 63 = omega arith in
    (placed r c.loop-g-test.true).start

pub overflow_mul-o : goal.overflow_mul-o
overflow_mul-o c =
    let r : c.args.d * c.args.n * 8 < 2 ^ 63 = omega arith in
    (placed r c.loop-g-test.true).start

pub overflow_add-oe : goal.overflow_add-oe
overflow_add-oe c =
    let r : c.args.d * c.args.n * 8 < 2 ^ 63 = omega arith in
    (placed r c.loop-g-test.true).end

pub slice_bounds-compress_group-count : goal.slice_bounds-compress_group-count
slice_bounds-compress_group-count c = le-add_right _ _

pub slice_bounds-compress_group-start : goal.slice_bounds-compress_group-start
slice_bounds-compress_group-start c = le-add_right _ _

pub slice_bounds-compress_group-end : goal.slice_bounds-compress_group-end
slice_bounds-compress_group-end c = part_within 64 (le_of_eq (sym c.requires.input.long0)) c.loop-g-test.true

pub slice_bounds-compress_group-count-in-loop-g : goal.slice_bounds-compress_group-count-in-loop-g
slice_bounds-compress_group-count-in-loop-g c = le-add_right _ _

pub slice_bounds-compress_group-start-in-loop-g : goal.slice_bounds-compress_group-start-in-loop-g
slice_bounds-compress_group-start-in-loop-g c = le-add_right _ _

pub slice_bounds-compress_group-end-in-loop-g : goal.slice_bounds-compress_group-end-in-loop-g
slice_bounds-compress_group-end-in-loop-g c = part_within 64 (le_of_eq (sym c.requires.input.long1)) c.loop-g-test.true

pub offset_bounds-ws-w : goal.offset_bounds-ws-w
offset_bounds-ws-w c =
    let r : (3 * c.args.d + 38) * c.args.n * 8 < 2 ^ 63 = omega arith in
    (placed r c.loop-g-test.true).bytes

pub slice_bounds-compress_group-count-in-loop-g-2 : goal.slice_bounds-compress_group-count-in-loop-g-2
slice_bounds-compress_group-count-in-loop-g-2 c =
    le_trans (le-add_right _ _) (fits_words c.loop-g.invariant.ran c.loop-g-test.true)

pub slice_bounds-compress_group-start-in-loop-g-2 : goal.slice_bounds-compress_group-start-in-loop-g-2
slice_bounds-compress_group-start-in-loop-g-2 c =
    le_trans (le-add_right _ _) (fits_words c.loop-g.invariant.ran c.loop-g-test.true)

pub slice_bounds-compress_group-end-in-loop-g-2 : goal.slice_bounds-compress_group-end-in-loop-g-2
slice_bounds-compress_group-end-in-loop-g-2 c = le_refl _

pub offset_bounds-out0-o : goal.offset_bounds-out0-o
offset_bounds-out0-o c =
    let r : c.args.d * c.args.n * 8 < 2 ^ 63 = omega arith in
    (placed r c.loop-g-test.true).bytes

pub slice_bounds-compress_group-count-in-loop-g-3 : goal.slice_bounds-compress_group-count-in-loop-g-3
slice_bounds-compress_group-count-in-loop-g-3 c = le-add_right _ _

pub slice_bounds-compress_group-start-in-loop-g-3 : goal.slice_bounds-compress_group-start-in-loop-g-3
slice_bounds-compress_group-start-in-loop-g-3 c = le-add_right _ _

pub slice_bounds-compress_group-end-in-loop-g-3 : goal.slice_bounds-compress_group-end-in-loop-g-3
slice_bounds-compress_group-end-in-loop-g-3 c = fits0 c.loop-g.invariant c.loop-g-test.true

pub offset_bounds-out1-o : goal.offset_bounds-out1-o
offset_bounds-out1-o c =
    let r : c.args.d * c.args.n * 8 < 2 ^ 63 = omega arith in
    (placed r c.loop-g-test.true).bytes

pub slice_bounds-compress_group-count-in-loop-g-4 : goal.slice_bounds-compress_group-count-in-loop-g-4
slice_bounds-compress_group-count-in-loop-g-4 c = le-add_right _ _

pub slice_bounds-compress_group-start-in-loop-g-4 : goal.slice_bounds-compress_group-start-in-loop-g-4
slice_bounds-compress_group-start-in-loop-g-4 c = le-add_right _ _

pub slice_bounds-compress_group-end-in-loop-g-4 : goal.slice_bounds-compress_group-end-in-loop-g-4
slice_bounds-compress_group-end-in-loop-g-4 c = fits1 c.loop-g.invariant c.loop-g-test.true

pub shape_of-out0 : goal.shape_of-out0
shape_of-out0 c = c.loop-g.invariant.long0 ∙ sym c.requires.out.long0

pub shape_of-out1 : goal.shape_of-out1
shape_of-out1 c = c.loop-g.invariant.long1 ∙ sym c.requires.out.long1

pub returns : goal.returns
returns c = (written_end c.loop-g.invariant c.loop-g-test.false).ran
