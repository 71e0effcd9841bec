-- A call that is told a rank does the one or the other: the rank is accepted, or it isn't. What it tested is t. One
-- that answers 0 was told an accepted rank.
use Rattle.std.specs.Prelude.{◌≡◌, refl, Bool, true, false, not, cond, ℕ, Result, Ok, Err, is_ok, IsErrAnd}
use Rattle.std.proofs.Common.{sym, ap, subst, ◌∙◌, true≢false, arith}
use Rattle.std.proofs.lemmas.Bool.{not-true, not-false}
use Rattle.refusals.specs.declared.Refusal.{Refusal}
use Rattle.refusals.specs.declared.Refusal.TheVariants.{NoSuchRank}
use Rattle.refusals.specs.Refusals.{Answer, refusal_number, number}
use Rattle.refusals.specs.RefusalLaws.{handed_on}
use Rattle.parameters.specs.declared.Parameters.{Parameters}
use Rattle.parameters.specs.Ranks.{is_rank, of_rank}
use Rattle.parameters.specs.RankSet.{set_of}
use Rattle.parameters.specs.Fits.{Fits}
use Rattle.parameters.specs.FitsLaws.{fits-of_rank}
use Rattle.parameters.specs.ByRank.{ByRank}

module _ (rank : ℕ) {t : Bool} (tested : t ≡ is_rank rank) {n : ℕ} {Call : Parameters → Type 0} {Kept : Type 0} where
  pub by_rank_refused : not t ≡ true → n ≡ refusal_number NoSuchRank → Kept → ByRank rank n Call Kept
  by_rank_refused h e k =
      let f = sym tested ∙ not-true t h in
      record { called = λ a. absurd (true≢false (sym a ∙ f)); refused = λ _. (e, k) }

  pub by_rank_called : not t ≡ false → {p : Parameters} → p ≡ of_rank rank → Call p → ByRank rank n Call Kept
  by_rank_called h e c =
      let a = sym tested ∙ not-false t h in
      record { called = λ _. subst Call e c; refused = λ f. absurd (true≢false (sym a ∙ f)) }

-- r is what `Parameters::try_from` returns of the rank
module _ (rank : ℕ) {r : Result Parameters Refusal} (tried : r ≡ set_of rank) where
  set-by : {t : Bool} → is_rank rank ≡ t → r ≡ cond t (Ok (of_rank rank)) (Err NoSuchRank)
  set-by a = tried ∙ ap (λ (b : Bool). cond b (Ok (of_rank rank)) (Err NoSuchRank)) a

  set-ok : {p : Parameters} → r ≡ Ok p → (is_rank rank ≡ true) × (of_rank rank ≡ p)
  set-ok {p} e = go (is_rank rank) refl
    where
      given : Result Parameters Refusal → Parameters
      given (Ok p) = p
      given (Err x) = of_rank rank

      go : (t : Bool) → is_rank rank ≡ t → (is_rank rank ≡ true) × (of_rank rank ≡ p)
      go true a = (a, ap given (sym (set-by a) ∙ e))
      go false a = absurd (true≢false (ap is_ok (sym e ∙ set-by a)))

  set-err : {x : Refusal} → r ≡ Err x → (is_rank rank ≡ false) × (refusal_number x ≡ refusal_number NoSuchRank)
  set-err {x} e = go (is_rank rank) refl
    where
      given : Result Parameters Refusal → ℕ
      given (Ok p) = 0
      given (Err x) = refusal_number x

      go : (t : Bool) → is_rank rank ≡ t
          → (is_rank rank ≡ false) × (refusal_number x ≡ refusal_number NoSuchRank)
      go true a = absurd (true≢false (ap is_ok (sym (set-by a) ∙ e)))
      go false a = (a, ap given (sym e ∙ set-by a))

  pub fits-set : {p : Parameters} → r ≡ Ok p → Fits p
  fits-set e = subst Fits (set-ok e).1 (fits-of_rank rank)

  module _ {Call : Parameters → Type 0} {Kept : Type 0} where
    pub by_rank_ok : {p : Parameters} {n : ℕ} → r ≡ Ok p → Call p → ByRank rank n Call Kept
    by_rank_ok e c =
        let s = set-ok e in
        record { called = λ _. subst Call (sym s.1) c; refused = λ f. absurd (true≢false (sym s.0 ∙ f)) }

    -- a is what `?` makes of it
    pub by_rank_err : {x : Refusal} → r ≡ Err x → (a : Answer) → IsErrAnd a (λ y. y ≡ x) → Kept
        → ByRank rank (number a) Call Kept
    by_rank_err e a h k =
        let s = set-err e in
        record {
          called = λ b. absurd (true≢false (sym b ∙ s.0));
          refused = λ _. (ap number (handed_on a h) ∙ s.1, k);
        }

pub by_rank_done : {rank : ℕ} {Call : Parameters → Type 0} {Kept : Type 0} → ByRank rank 0 Call Kept
    → Call (of_rank rank)
by_rank_done {rank} {Call} b = go (is_rank rank) refl
  where
    go : (t : Bool) → is_rank rank ≡ t → Call (of_rank rank)
    go true e = b.called e
    go false e = absurd (omega (arith, (b.refused e).0))
