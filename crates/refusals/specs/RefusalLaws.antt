-- Laws of the rows, and of row 1's lengths.
use Rattle.std.specs.Prelude.{◌≡◌, refl, Bool, true, false, not, cond, ◌&&◌, List, [], ◌∷◌, ◌++◌, ℕ, ◌<◌, eqb, length}
use Rattle.std.specs.Prelude.{Ok, Err, IsErrAnd}
use Rattle.std.proofs.Common.{sym, ap, ap₂, ◌∙◌, arith, eqb-true, eq-eqb, ne_eqb}
use Rattle.std.proofs.Math.Bool.{and_assoc}
use Rattle.std.proofs.lemmas.Bool.{not-true, not-false}
use Rattle.refusals.specs.declared.Refusal.{Refusal}
use Rattle.refusals.specs.declared.Refusal.TheVariants.{WrongLength, PublicKeyRange, WrongHash}
use Rattle.refusals.specs.declared.Refusal.TheVariants.{MaskRange, ShareRange, ShortStream}
use Rattle.refusals.specs.declared.Refusal.TheVariants.{NoSuchStep, NoSuchRank, LimitRange, LimitReached}
use Rattle.refusals.specs.Refusals.{Answer, Done, refusal_number, number, Row, row, answer, after, Lent, sized}
use Rattle.refusals.specs.Same.{same}
use Rattle.refusals.specs.SameLaws.{and_left, and_right}

-- the answer is that of the first row whose test b fails
module _ (r : Refusal) (rs : List Row) {b : Bool} where
  pub refused : b ≡ false → answer (row (not b) r ∷ rs) ≡ Err r
  unfolding answer
  refused e = rw e

  pub passed : {x : Answer} → b ≡ true → answer rs ≡ x → answer (row (not b) r ∷ rs) ≡ x
  unfolding answer
  passed e h = rw e h

pub no_row : answer [] ≡ Done
unfolding answer
no_row = refl

-- no refusal has the number 0
pub refusal_number-positive : (r : Refusal) → 0 < refusal_number r
refusal_number-positive WrongLength = omega arith
refusal_number-positive PublicKeyRange = omega arith
refusal_number-positive WrongHash = omega arith
refusal_number-positive MaskRange = omega arith
refusal_number-positive ShareRange = omega arith
refusal_number-positive ShortStream = omega arith
refusal_number-positive NoSuchStep = omega arith
refusal_number-positive NoSuchRank = omega arith
refusal_number-positive LimitRange = omega arith
refusal_number-positive LimitReached = omega arith

-- a call that is carried out has passed each row
pub done_passed : (b : Bool) (r : Refusal) (rs : List Row) → answer (row (not b) r ∷ rs) ≡ Done
    → (b ≡ true) × (answer rs ≡ Done)
unfolding answer
done_passed true r rs h = (refl, h)
done_passed false r rs h = absurd (omega (arith, ap number h, refusal_number-positive r))

-- what `?` returns of a refused call is its refusal
pub handed_on : (a : Answer) {r : Refusal} → IsErrAnd a (λ x. x ≡ r) → a ≡ Err r
handed_on (Ok tt) h = absurd h
handed_on (Err x) h = ap Err h

-- ---- what a call leaves

-- the number is 0 for a call that is carried out, and for no other
pub number-done : (a : Answer) → number a ≡ 0 → a ≡ Done
number-done (Ok tt) e = refl
number-done (Err r) e = absurd (omega (arith, e, refusal_number-positive r))

pub after_done : {A : Type 0} (n : ℕ) (new old : A) → n ≡ 0 → after n new old ≡ new
after_done {A} n new old e = ap (λ (b : Bool). cond b new old) (eq-eqb n 0 e)

pub after_refused : {A : Type 0} (n : ℕ) (new old : A) → (n ≡ 0 → ⊥) → after n new old ≡ old
after_refused {A} n new old h = ap (λ (b : Bool). cond b new old) (ne_eqb n 0 h)

-- a buffer that a refused call leaves as it was
pub after_kept : {A : Type 0} (r : Answer) (new old : A) → 0 < number r → old ≡ after (number r) new old
after_kept {A} r new old h = sym (after_refused (number r) new old (λ z. omega arith))

-- ---- lengths

-- each lent buffer has its length
abbrev pub Exact : List Lent → Type 0
Exact [] = Unit {0}
Exact (b ∷ bs) = (length b.list ≡ b.size) × Exact bs

pub sized-exact : (bs : List Lent) → sized bs ≡ true → Exact bs
unfolding sized
sized-exact [] e = tt
sized-exact (b ∷ bs) e =
    let c = eqb (length b.list) b.size in
    (eqb-true (length b.list) b.size (and_left c (sized bs) e), sized-exact bs (and_right c (sized bs) e))

pub exact-sized : (bs : List Lent) → Exact bs → sized bs ≡ true
unfolding sized
exact-sized [] x = refl
exact-sized (b ∷ bs) x =
    ap₂ (λ (c d : Bool). c && d) (eq-eqb (length b.list) b.size x.0) (exact-sized bs x.1)

-- the lengths of buffers, and of others behind them
pub sized_both : (bs cs : List Lent) → sized (bs ++ cs) ≡ (sized bs && sized cs)
unfolding sized
sized_both [] cs = refl
sized_both (b ∷ bs) cs =
    let c = eqb (length b.list) b.size in
    ap (λ (x : Bool). c && x) (sized_both bs cs) ∙ sym (and_assoc c (sized bs) (sized cs))

-- ---- row 1, as a call tests it by `exact`

-- the lengths that the lent buffers have, and those that they must have
abbrev pub has : List Lent → List ℕ
has [] = []
has (b ∷ bs) = length b.list ∷ has bs

abbrev pub wants : List Lent → List ℕ
wants [] = []
wants (b ∷ bs) = b.size ∷ wants bs

sized_same : (bs : List Lent) → sized bs ≡ same (has bs) (wants bs)
unfolding sized same
sized_same [] = refl
sized_same (b ∷ bs) = ap (λ (c : Bool). eqb (length b.list) b.size && c) (sized_same bs)

-- the call has tested the buffers bs, with the answer t
pub record LengthsTested (bs : List Lent) (t : Bool) : Type 0 where
  pub is : sized bs ≡ t

pub lengths_tested : (bs : List Lent) {w : List ℕ} {t : Bool} → t ≡ same (has bs) w → w ≡ wants bs → LengthsTested bs t
lengths_tested bs e h = record { is = sized_same bs ∙ ap (same (has bs)) (sym h) ∙ sym e }

module _ {bs : List Lent} {t : Bool} (r : LengthsTested bs t) where
  pub row1_refused : (rs : List Row) → not t ≡ true → answer (row (not (sized bs)) WrongLength ∷ rs) ≡ Err WrongLength
  row1_refused rs h = refused WrongLength rs (r.is ∙ not-true t h)

  pub row1_sized : not t ≡ false → sized bs ≡ true
  row1_sized h = r.is ∙ not-false t h

  pub row1_exact : not t ≡ false → Exact bs
  row1_exact h = sized-exact bs (row1_sized h)
