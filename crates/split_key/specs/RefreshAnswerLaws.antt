-- Refreshing's answer and what it leaves: lengths that are exact pass row 1, so that the other rows decide; a refused
-- call leaves each lent buffer and the count as they were; one that is carried out has passed each row.
use Rattle.std.specs.Prelude.{◌≡◌, true, ◌&&◌, List, ℕ, ◌*◌, Err}
use Rattle.std.proofs.Common.{sym, ap}
use Rattle.worksheet.specs.SharedList.{SharedList}
use Rattle.refusals.specs.declared.Refusal.{Refusal}
use Rattle.refusals.specs.declared.Refusal.TheVariants.{WrongLength, MaskRange, ShareRange}
use Rattle.refusals.specs.Refusals.{Answer, Done, refusal_number, number, answer, sized}
use Rattle.refusals.specs.Reduced.{reduced}
use Rattle.refusals.specs.RefusalLaws.{refusal_number-positive, Exact, passed, done_passed}
use Rattle.refusals.specs.RefusalLaws.{sized-exact, exact-sized, after_kept}
use Rattle.parameters.specs.declared.Parameters.{Parameters}
use Rattle.split_key.specs.Sized.{RefreshSized}
use Rattle.split_key.specs.Refresh.{refresh_lengths, refresh_rows, refresh_answer, Refreshed}

-- what refreshing that is carried out has tested
pub record Refreshable (p : Parameters) (mask_coeffs mask_words : List ℕ) (s z : SharedList) : Type 0 where
  pub long : RefreshSized (256 * p.k) mask_coeffs mask_words s z
  pub masks : reduced mask_coeffs ≡ true
  pub shares : (reduced s.s0 && reduced s.s1) ≡ true

module _ (p : Parameters) {mask_coeffs mask_words : List ℕ} {s z : SharedList} where
  -- ---- lengths

  pub exact_refresh : Exact (refresh_lengths p mask_coeffs mask_words s z)
      → RefreshSized (256 * p.k) mask_coeffs mask_words s z
  exact_refresh x =
      let y = x.1.1 in
      record {
        mask_coeffs = x.0;
        mask_words = x.1.0;
        s0 = y.0;
        s1 = y.1.0;
        z0 = y.1.1.0;
        z1 = y.1.1.1.0;
      }

  refresh_exact : RefreshSized (256 * p.k) mask_coeffs mask_words s z
      → Exact (refresh_lengths p mask_coeffs mask_words s z)
  refresh_exact l = (l.mask_coeffs, (l.mask_words, (l.s0, (l.s1, (l.z0, (l.z1, tt))))))

  -- ---- the answer

  pub refresh_answer_lem : {r : Answer} → RefreshSized (256 * p.k) mask_coeffs mask_words s z
      → answer (refresh_rows p mask_coeffs s) ≡ r → refresh_answer p mask_coeffs mask_words s z ≡ r
  unfolding refresh_answer
  refresh_answer_lem l h = passed WrongLength _ (exact-sized _ (refresh_exact l)) h

  pub refresh_refused : (r : Refusal) (count : ℕ) → refresh_answer p mask_coeffs mask_words s z ≡ Err r
      → Refreshed p mask_coeffs mask_words s z count (refusal_number r) s z count
  refresh_refused r count e =
      let h = refusal_number-positive r in
      record {
        answer = ap number (sym e);
        s = after_kept (Err r) _ _ h;
        z = after_kept (Err r) _ _ h;
        count = after_kept (Err r) _ _ h;
      }

  pub refresh_tested : refresh_answer p mask_coeffs mask_words s z ≡ Done → Refreshable p mask_coeffs mask_words s z
  unfolding refresh_answer
  refresh_tested e =
      let r₁ = done_passed (sized (refresh_lengths p mask_coeffs mask_words s z)) WrongLength _ e in
      let r₅ = done_passed (reduced mask_coeffs) MaskRange _ r₁.1 in
      let r₆ = done_passed (reduced s.s0 && reduced s.s1) ShareRange _ r₅.1 in
      record { long = exact_refresh (sized-exact _ r₁.0); masks = r₅.0; shares = r₆.0 }
