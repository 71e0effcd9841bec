-- The tests go by rows 1, 5 and 6, so that the first that fails gives the answer; where none fails, move_shares leaves
-- the fresh shares, and 0 is written into the count.
use mathlib.Core.Path.{◌≡◌, refl, sym, ap, ◌∙◌}
use mathlib.Core.Bool.{Bool, false, not}
use mathlib.Core.List.{List, [], ◌∷◌}
use Prim.Native.Nat.{ℕ, ◌*◌}
use native.Mathlib.Omega.{arith}
use Rattle.worksheet.specs.SharedList.{shared_list}
use Rattle.refusals.specs.declared.Refusal.TheVariants.{WrongLength, MaskRange, ShareRange}
use Rattle.refusals.specs.Refusals.{Done, number}
use Rattle.refusals.specs.RefusalLaws.{LengthsTested, lengths_tested, has, row1_refused, row1_exact}
use Rattle.refusals.specs.Same.{same}
use Rattle.parameters.specs.declared.Parameters.{Parameters}
use Rattle.refusals.specs.RefusalLaws.{refused, passed, no_row}
use Rattle.split_key.specs.Sized.{RefreshSized}
use Rattle.split_key.specs.Refresh.{refresh_lengths, refresh_answer}
use Rattle.split_key.specs.RefreshAnswerLaws.{exact_refresh, refresh_answer_lem, refresh_refused}
use Rattle.split_key_refresh.proofs.refresh_at.Goals as goal

-- row 1, and the lengths, where it has been passed
module _ (p : Parameters) (mask_coeffs mask_words s0 s1 z0 z1 : List ℕ) {t : Bool}
    (e : (let n = 256 * p.k in
    t ≡ same (has (refresh_lengths p mask_coeffs mask_words (shared_list s0 s1) (shared_list z0 z1)))
    (n ∷ 4 ∷ n ∷ n ∷ 4 ∷ 4 ∷ []))) where
  row1 : LengthsTested (refresh_lengths p mask_coeffs mask_words (shared_list s0 s1) (shared_list z0 z1)) t
  row1 = lengths_tested _ e refl

  long : not t ≡ false → RefreshSized (256 * p.k) mask_coeffs mask_words (shared_list s0 s1) (shared_list z0 z1)
  long h = exact_refresh p (row1_exact row1 h)

pub returns-then-not-exact-clause-refreshed : goal.returns-then-not-exact-clause-refreshed
unfolding refresh_answer
returns-then-not-exact-clause-refreshed c =
    let a = c.args in
    refresh_refused a.p WrongLength a.count.now
    (row1_refused (row1 a.p _ _ _ _ _ _ c.exact.ensures) _ (ap not c.if-not-exact.true))

pub returns-then-not-reduced-clause-refreshed : goal.returns-then-not-reduced-clause-refreshed
returns-then-not-reduced-clause-refreshed c =
    let a = c.args in
    let row5 = refused MaskRange _ (sym c.reduced.ensures ∙ c.if-not-reduced.true) in
    refresh_refused a.p MaskRange a.count.now
    (refresh_answer_lem a.p (long a.p _ _ _ _ _ _ c.exact.ensures (ap not c.if-not-exact.false)) row5)

pub returns-then-not-are_reduced-clause-refreshed : goal.returns-then-not-are_reduced-clause-refreshed
returns-then-not-are_reduced-clause-refreshed c =
    let a = c.args in
    let row6 = refused ShareRange _ (sym c.are_reduced.ensures ∙ c.if-not-are_reduced.true) in
    refresh_refused a.p ShareRange a.count.now
    (refresh_answer_lem a.p (long a.p _ _ _ _ _ _ c.exact.ensures (ap not c.if-not-exact.false))
    (passed MaskRange _ (sym c.reduced.ensures ∙ c.if-not-reduced.false) row6))

pub move_shares-requires : goal.move_shares-requires
move_shares-requires c =
    let a = c.args in
    let l = long a.p _ _ _ _ _ _ c.exact.ensures (ap not c.if-not-exact.false) in
    record {
      mask_coeffs = refl;
      mask_words = l.mask_words;
      s0 = l.s0 ∙ sym l.mask_coeffs;
      s1 = l.s1 ∙ sym l.mask_coeffs;
      z0 = l.z0;
      z1 = l.z1;
    }

pub returns-clause-refreshed : goal.returns-clause-refreshed
returns-clause-refreshed c =
    let a = c.args in
    let row6 = passed ShareRange _ (sym c.are_reduced.ensures ∙ c.if-not-are_reduced.false) no_row in
    let rows = passed MaskRange _ (sym c.reduced.ensures ∙ c.if-not-reduced.false) row6 in
    let l = long a.p _ _ _ _ _ _ c.exact.ensures (ap not c.if-not-exact.false) in
    record {
      answer = ap number (sym (refresh_answer_lem a.p {r = Done} l rows));
      s = c.move_shares.ensures.s1_after;
      z = c.move_shares.ensures.z1_after;
      count = refl;
    }

pub overflow_mul-n : goal.overflow_mul-n
overflow_mul-n c = record { fits = omega (arith, c.requires.rank.most) }
