-- The masks are copied into z0, and turn i puts the xor of word i of z with mask i into z1: so both shares are made.
use mathlib.Core.Path.{refl, sym, ap, ap₂, ◌∙◌}
use Prim.Native.Nat.{ℕ, ◌*◌}
use borrow.Author.Rules.{rules}
use native.Mathlib.Omega.{arith}
use lib.ListN.{get_or}
use Rattle.words.specs.Word.{xor}
use Rattle.words.specs.Numeral.{value}
use Rattle.words.specs.TabLaws.{tab_of}
use Rattle.words.specs.Fill.{filled_start, filled_turn, filled_end}
use Rattle.worksheet.specs.SharedList.{shared_list}
use Rattle.words.specs.Part.{part_span, length_span}
use Rattle.split_key.proofs.splitting.split_words.Goals as goal

pub load-requires : goal.load-requires
load-requires c = length_span (8 * c.loop-i.i) 8 c.args.z.now (omega arith)

pub loop-i-preserved : goal.loop-i-preserved
unfolding xor
loop-i-preserved c =
    let s = c.args in
    let i = c.loop-i.i in
    let v = c.load.ensures ∙ ap (value 256) (part_span (8 * i) 8 s.z.now) in
    filled_turn c.loop-i.invariant (omega arith) (ap (λ (x : ℕ). xor x (get_or s.mask_words.now i 0)) v)

pub returns : goal.returns
returns c =
    let masks = c.args.mask_words.now in
    let copied = c.tabulate.ensures (λ (i : ℕ). get_or masks i 0) (λ i y h given. search rules) in
    let whole = tab_of 0 masks _ (c.requires.masks ∙ sym c.requires.share0) (λ i g. refl) in
    ap₂ shared_list (copied ∙ sym whole) (filled_end c.loop-i.invariant (omega arith))

pub loop-i-init : goal.loop-i-init
loop-i-init c = filled_start (omega arith)
