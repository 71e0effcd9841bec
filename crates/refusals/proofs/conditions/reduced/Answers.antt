-- After i turns `all` is the test of the first i coefficients: one more coefficient is one more factor at its end.
use mathlib.Core.Path.{◌≡◌, refl, sym, ap, ◌∙◌}
use mathlib.Core.Bool.{Bool, true, false, ◌&&◌}
use mathlib.Core.List.{List, [], ◌∷◌, ◌++◌}
use Prim.Native.Nat.{ℕ, ◌+◌, ◌<◌}
use native.Mathlib.Numerals.{add-one}
use native.Mathlib.Omega.{arith}
use lib.Dec.{ltb}
use lib.ListN.{length, get_or, take}
use lib.Seq.{take-suc, take_all}
use Rattle.words.specs.Residue.{q}
use Rattle.refusals.specs.Reduced.{reduced}
use Rattle.refusals.proofs.conditions.reduced.Invariants.{Tested}
use Rattle.refusals.proofs.conditions.reduced.Goals as goal

-- ---- laws
and-true : (b : Bool) → (b && true) ≡ b
and-true true = refl
and-true false = refl

and_assoc : (a b c : Bool) → (a && (b && c)) ≡ ((a && b) && c)
and_assoc true b c = refl
and_assoc false b c = refl

-- the last coefficient's test
reduced-snoc : (l : List ℕ) (x : ℕ) → reduced (l ++ x ∷ []) ≡ (reduced l && ltb x q)
unfolding reduced
reduced-snoc [] x = and-true (ltb x q)
reduced-snoc (y ∷ l) x =
    ap (λ (b : Bool). ltb y q && b) (reduced-snoc l x) ∙ and_assoc (ltb y q) (reduced l) (ltb x q)

tested-turn : {f : List ℕ} {all : Bool} {i : ℕ} → Tested f all i → i < length f
    → Tested f (all && ltb (get_or f i 0) q) (i + 1)
tested-turn {f} {all} {i} t h =
    record {
      within = omega arith;
      is =
          ap (λ (b : Bool). b && ltb (get_or f i 0) q) t.is
          ∙ sym (ap reduced (rw (add-one i) (take-suc f i 0 h)) ∙ reduced-snoc (take i f) (get_or f i 0));
    }

-- ---- facts
pub loop-x-init : goal.loop-x-init
unfolding reduced
loop-x-init c = record { within = omega arith; is = refl }

pub loop-x-preserved : goal.loop-x-preserved
loop-x-preserved c = tested-turn c.loop-x.invariant (omega arith)

pub returns : goal.returns
returns c = let l = c.loop-x in l.invariant.is ∙ ap reduced (take_all l.x-index _ (omega arith))
