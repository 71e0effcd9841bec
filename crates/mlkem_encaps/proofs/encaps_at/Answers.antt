-- A wrong length is row 1, which comes first; else all lengths are exact, as encaps_sized asks.
use mathlib.Core.Path.{◌≡◌, ap, ap₂}
use mathlib.Core.Bool.{Bool, not}
use mathlib.Core.List.{List, [], ◌∷◌}
use Prim.Native.Nat.{ℕ}
use lib.ListN.{length}
use Rattle.refusals.specs.declared.Refusal.TheVariants.{WrongLength}
use Rattle.refusals.specs.Same.{same}
use Rattle.refusals.specs.RefusalLaws.{LengthsTested, lengths_tested, row1_refused, row1_exact}
use Rattle.parameters.specs.declared.Parameters.{Parameters}
use Rattle.parameters.specs.Lengths.{ek_bytes, ct_bytes}
use Rattle.mlkem.specs.Calls.{encaps_lengths, encaps_answer}
use Rattle.mlkem.specs.CallLaws.{encaps_refused}
use Rattle.mlkem_encaps.proofs.encaps_at.Goals as goal

-- row 1's test, as `exact` makes it
row1 : (p : Parameters) (ek m ct k : List ℕ) {t : Bool} {x y : ℕ}
    → t ≡ same (length ek ∷ length m ∷ length ct ∷ length k ∷ []) (x ∷ 32 ∷ y ∷ 32 ∷ []) → x ≡ ek_bytes p
    → y ≡ ct_bytes p → LengthsTested (encaps_lengths p ek m ct k) t
row1 p ek m ct k e f g = lengths_tested _ e (ap₂ (λ (x y : ℕ). x ∷ 32 ∷ y ∷ 32 ∷ []) f g)

pub returns-then-not-exact : goal.returns-then-not-exact
unfolding encaps_answer
returns-then-not-exact c =
    let s = c.args in
    let r = row1 s.p s.ek.now s.m.now s.ct.now s.k.now c.exact.ensures c.ek_bytes.ensures c.ct_bytes.ensures in
    encaps_refused s.e s.p WrongLength _ _ _ _
    (row1_refused r _ (ap not c.if-not-exact.true))

pub encaps_sized-requires : goal.encaps_sized-requires
encaps_sized-requires c =
    let s = c.args in
    let r = row1 s.p s.ek.now s.m.now s.ct.now s.k.now c.exact.ensures c.ek_bytes.ensures c.ct_bytes.ensures in
    let e = row1_exact r (ap not c.if-not-exact.false) in
    (c.requires, record { ek = e.0; m = e.1.0; ct = e.1.1.0; k = e.1.1.1.0 })

pub returns : goal.returns
returns c = c.encaps_sized.ensures
