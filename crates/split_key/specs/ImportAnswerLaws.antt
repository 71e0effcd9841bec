-- Import's answer and what it leaves: lengths that are exact pass row 1, so that the other rows decide, and a refused
-- import leaves each lent buffer and number as it was.
use Rattle.std.specs.Prelude.{◌≡◌, List, ℕ, Err}
use Rattle.std.proofs.Common.{sym, ap}
use Rattle.refusals.specs.declared.Refusal.{Refusal}
use Rattle.refusals.specs.declared.Refusal.TheVariants.{WrongLength}
use Rattle.refusals.specs.Refusals.{Answer, refusal_number, number, answer}
use Rattle.refusals.specs.RefusalLaws.{refusal_number-positive, passed, exact-sized, after_kept}
use Rattle.parameters.specs.declared.Parameters.{Parameters}
use Rattle.split_key.specs.SplitKey.{SplitKey}
use Rattle.split_key.specs.KeyState.{KeyState}
use Rattle.split_key.specs.Import.{import_rows, import_answer, Imported}
use Rattle.split_key.specs.Sized.{ImportSized}

module _ (p : Parameters) where
  module _ (r : Answer) (limit : ℕ) {dk mask_coeffs mask_words : List ℕ} {key : SplitKey} where
    pub import_answer_lem : ImportSized p dk mask_coeffs mask_words key
        → answer (import_rows p dk mask_coeffs limit) ≡ r → import_answer p dk mask_coeffs mask_words limit key ≡ r
    unfolding import_answer
    import_answer_lem s h =
        let k = s.key in
        passed WrongLength _
        (exact-sized _
        (s.dk, (s.mask_coeffs, (s.mask_words, (k.s0, (k.s1, (k.z0, (k.z1, (k.public, tt)))))))))
        h

  pub import_refused : (r : Refusal) (dk mask_coeffs mask_words : List ℕ) (limit : ℕ) (state : KeyState)
      → import_answer p dk mask_coeffs mask_words limit state.key ≡ Err r
      → Imported p dk mask_coeffs mask_words limit state (refusal_number r) state
  import_refused r dk mask_coeffs mask_words limit state e =
      record { answer = ap number (sym e); state = after_kept (Err r) _ _ (refusal_number-positive r) }
