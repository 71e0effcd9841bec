-- Whole lanes are stored as long as eight bytes are left, then single bytes: either way byte i is byte i % 8 of lane
-- i / 8.
use Prim.Native.Nat.{ℕ, ◌+◌, ◌-◌, ◌*◌, ◌/◌, ◌%◌}
use mathlib.Core.Path.{◌≡◌, refl, ◌∙◌}
use mathlib.Core.List.{List}
use borrow.Author.Rules.{rules}
use native.Mathlib.Omega.{arith}
use lib.ListN.{get_or, length}
use Rattle.words.specs.Tab.{tab}
use Rattle.words.specs.TabLaws.{tab_cong}
use Rattle.words.specs.Numeral.{digits}
use Rattle.words.specs.NumeralLaws.{digits-tab}
use Rattle.words.specs.Fill.{filled_start, filled_turn, filled_part, filled_end}
use Rattle.fips202.specs.Sponge.{byte_of}
use Rattle.fips202.proofs.squeeze.extract.Goals as goal

lane-bytes : (s : List ℕ) (j : ℕ) → digits 256 8 (get_or s j 0) ≡ tab (8 * j + 8 - 8 * j) (λ k. byte_of s (8 * j + k))
lane-bytes s j =
    let d : 8 * j + 8 - 8 * j ≡ 8 = omega arith in
    rw d
    (digits-tab 256 8 (get_or s j 0)
    ∙ tab_cong 8
    (λ k h. let q : (8 * j + k) / 8 ≡ j = omega arith in let r : (8 * j + k) % 8 ≡ k = omega arith in rw (q, r)))

pub loop-j-init : goal.loop-j-init
loop-j-init c = filled_start refl

pub loop-j-preserved : goal.loop-j-preserved
loop-j-preserved c =
    let j = c.loop-j.j in
    let w : 8 * (j + 1) ≡ 8 * j + 8 = omega arith in
    rw w
    (filled_part c.loop-j.invariant (omega arith) (omega arith) (c.store.ensures ∙ lane-bytes c.args.s.lanes j))

pub loop-i-init : goal.loop-i-init
loop-i-init c =
    let j : c.loop-j.j ≡ length c.args.out.now / 8 = omega arith in
    rw j at c.loop-j.invariant

pub loop-i-preserved : goal.loop-i-preserved
loop-i-preserved c = filled_turn c.loop-i.invariant (search rules) c.byte.ensures

pub returns : goal.returns
returns c = filled_end c.loop-i.invariant (search rules)
