-- A wrong length is row 1, which comes first; else all lengths are exact, as keygen_sized asks.
use mathlib.Core.Path.{◌≡◌, ap, ap₂}
use mathlib.Core.Bool.{Bool, not}
use mathlib.Core.List.{List, [], ◌∷◌}
use Prim.Native.Nat.{ℕ}
use lib.ListN.{length}
use Rattle.refusals.specs.declared.Refusal.TheVariants.{WrongLength}
use Rattle.refusals.specs.Same.{same}
use Rattle.refusals.specs.RefusalLaws.{LengthsTested, lengths_tested, row1_refused, row1_exact}
use Rattle.parameters.specs.declared.Parameters.{Parameters}
use Rattle.parameters.specs.Lengths.{ek_bytes, dk_bytes}
use Rattle.mlkem.specs.Calls.{key_gen_lengths, key_gen_answer}
use Rattle.mlkem.specs.CallLaws.{keygen_refused}
use Rattle.mlkem_keygen.proofs.keygen_at.Goals as goal

-- row 1's test, as `exact` makes it
row1 : (p : Parameters) (d z ek dk : List ℕ) {t : Bool} {m n : ℕ}
    → t ≡ same (length d ∷ length z ∷ length ek ∷ length dk ∷ []) (32 ∷ 32 ∷ m ∷ n ∷ []) → m ≡ ek_bytes p
    → n ≡ dk_bytes p → LengthsTested (key_gen_lengths p d z ek dk) t
row1 p d z ek dk e f g = lengths_tested _ e (ap₂ (λ (x y : ℕ). 32 ∷ 32 ∷ x ∷ y ∷ []) f g)

pub returns-then-not-exact : goal.returns-then-not-exact
unfolding key_gen_answer
returns-then-not-exact c =
    let s = c.args in
    let r = row1 s.p s.d.now s.z.now s.ek.now s.dk.now c.exact.ensures c.ek_bytes.ensures c.dk_bytes.ensures in
    keygen_refused s.e s.p WrongLength _ _ _ _
    (row1_refused r _ (ap not c.if-not-exact.true))

pub keygen_sized-requires : goal.keygen_sized-requires
keygen_sized-requires c =
    let s = c.args in
    let r = row1 s.p s.d.now s.z.now s.ek.now s.dk.now c.exact.ensures c.ek_bytes.ensures c.dk_bytes.ensures in
    let e = row1_exact r (ap not c.if-not-exact.false) in
    (c.requires, record { d = e.0; z = e.1.0; ek = e.1.1.0; dk = e.1.1.1.0 })

pub returns : goal.returns
returns c = c.keygen_sized.ensures
