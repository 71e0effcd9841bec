-- Import answers done for accepted keys alone, and for each of them where its other arguments are in order. What it
-- stores of an accepted key follows from the public part.
use Rattle.std.specs.Prelude.{◌≡◌, true, List, [], ◌++◌, ℕ}
use Rattle.std.proofs.Common.{sym, ap, ap₂, ◌∙◌}
use Rattle.refusals.specs.declared.Refusal.TheVariants.{WrongLength, WrongHash, LimitRange, MaskRange}
use Rattle.refusals.specs.Refusals.{Done, sized}
use Rattle.refusals.specs.Reduced.{reduced}
use Rattle.refusals.specs.Same.{same}
use Rattle.refusals.specs.SameLaws.{same_refl, same_true}
use Rattle.refusals.specs.RefusalLaws.{Exact, passed, no_row, done_passed, sized-exact}
use Rattle.parameters.specs.declared.Parameters.{Parameters}
use Rattle.hash_functions.specs.Functions.{H}
use Rattle.mlkem.specs.MlKem.{public_part, hash_part}
use Rattle.split_key.specs.SplitKey.{SplitKey, public_of}
use Rattle.split_key.specs.KeyState.{is_limit}
use Rattle.split_key.specs.Import.{import_lengths, import_answer, Accepted}
use Rattle.split_key.specs.Sized.{ImportSized}
use Rattle.split_key.specs.ImportAnswerLaws.{import_answer_lem}

module _ (p : Parameters) (dk mask_coeffs mask_words : List ℕ) (limit : ℕ) (key : SplitKey) where
  pub import_exact : import_answer p dk mask_coeffs mask_words limit key ≡ Done
      → Exact (import_lengths p dk mask_coeffs mask_words key)
  unfolding import_answer
  import_exact e = sized-exact _ (done_passed _ WrongLength _ e).0

  pub import_accepted : import_answer p dk mask_coeffs mask_words limit key ≡ Done → Accepted p dk
  unfolding import_answer
  import_accepted e =
      let r₁ = done_passed (sized (import_lengths p dk mask_coeffs mask_words key)) WrongLength _ e in
      let r₃ = done_passed (same (hash_part p dk) (H (public_part p dk))) WrongHash _ r₁.1 in
      record { long = (import_exact e).0; hash = same_true (hash_part p dk) (H (public_part p dk)) r₃.0 }

  pub accepted_import : Accepted p dk → ImportSized p dk mask_coeffs mask_words key → is_limit limit ≡ true
      → reduced mask_coeffs ≡ true
      → import_answer p dk mask_coeffs mask_words limit key ≡ Done
  accepted_import x s l r =
      let h = H (public_part p dk) in
      let fits : same (hash_part p dk) h ≡ true = ap (λ (l : List ℕ). same l h) x.hash ∙ same_refl h in
      import_answer_lem p Done limit s (passed WrongHash _ fits (passed LimitRange _ l (passed MaskRange [] r no_row)))

pub accepted_public : (p : Parameters) {dk dk' : List ℕ} → Accepted p dk → Accepted p dk'
    → public_part p dk ≡ public_part p dk'
    → public_of p dk ≡ public_of p dk'
accepted_public p x x' e = ap₂ (λ (l m : List ℕ). l ++ m) e (x.hash ∙ ap H e ∙ sym x'.hash)
