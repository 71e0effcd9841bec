-- A call's answer and what it leaves: lengths that are exact pass row 1, so that the other rows decide, and a refused
-- call leaves each lent buffer as it was.
use Rattle.std.specs.Prelude.{◌≡◌, not, List, [], ◌∷◌, ℕ, take, Err}
use Rattle.std.proofs.Common.{sym, ap}
use Rattle.parameters.specs.declared.Edition.{Edition}
use Rattle.parameters.specs.declared.Parameters.{Parameters}
use Rattle.parameters.specs.Lengths.{vector_bytes}
use Rattle.vectors.specs.Vector.{coefficients}
use Rattle.kpke.specs.KPke.{matrix_full}
use Rattle.refusals.specs.declared.Refusal.{Refusal}
use Rattle.refusals.specs.declared.Refusal.TheVariants.{WrongLength, PublicKeyRange, ShortStream}
use Rattle.refusals.specs.Refusals.{Answer, refusal_number, number, row, answer, after}
use Rattle.refusals.specs.Reduced.{reduced}
use Rattle.refusals.specs.RefusalLaws.{refusal_number-positive, passed, exact-sized, after_kept}
use Rattle.mlkem.specs.Editions.{seeds}
use Rattle.mlkem.specs.Calls.{
  sample_answer,
  StreamSampled,
  rho_of,
  key_gen_answer,
  KeysMade,
  encaps_answer,
  Encapsulated,
}
use Rattle.mlkem.specs.Sized.{KeyGenSized, EncapsSized}

pub sample_refused : (r : Refusal) {stream out : List ℕ} → sample_answer stream out ≡ Err r
    → StreamSampled stream out (refusal_number r) out
sample_refused r e =
    record { answer = ap number (sym e); out = after_kept (Err r) _ _ (refusal_number-positive r) }

-- ---- row 1 passed

module _ (e : Edition) (p : Parameters) (r : Answer) {d z ek dk : List ℕ} where
  pub keygen_answer : KeyGenSized p d z ek dk
      → answer (row (not (matrix_full p.k (take 32 (seeds e p d)))) ShortStream ∷ []) ≡ r
      → key_gen_answer e p d z ek dk ≡ r
  unfolding key_gen_answer
  keygen_answer s h = passed WrongLength _ (exact-sized _ (s.d, (s.z, (s.ek, (s.dk, tt))))) h

module _ (p : Parameters) (r : Answer) {ek m ct k : List ℕ} where
  pub encaps_answer_lem : EncapsSized p ek m ct k
      → answer
      (row (not (reduced (coefficients p.k (take (vector_bytes p) ek)))) PublicKeyRange
      ∷ row (not (matrix_full p.k (rho_of p ek))) ShortStream
      ∷ [])
      ≡ r
      → encaps_answer p ek m ct k ≡ r
  unfolding encaps_answer
  encaps_answer_lem s h = passed WrongLength _ (exact-sized _ (s.ek, (s.m, (s.ct, (s.k, tt))))) h

-- ---- refused

module _ (e : Edition) (p : Parameters) (r : Refusal) where
  kept : {A : Type 0} (new old : A) → old ≡ after (refusal_number r) new old
  kept new old = after_kept (Err r) new old (refusal_number-positive r)

  pub keygen_refused : (d z ek dk : List ℕ) → key_gen_answer e p d z ek dk ≡ Err r
      → KeysMade e p d z ek dk (refusal_number r) ek dk
  keygen_refused d z ek dk f =
      record { answer = ap number (sym f); ek = kept _ _; dk = kept _ _ }

  pub encaps_refused : (ek m ct k : List ℕ) → encaps_answer p ek m ct k ≡ Err r
      → Encapsulated e p ek m ct k (refusal_number r) ct k
  encaps_refused ek m ct k f = record { answer = ap number (sym f); ct = kept _ _; k = kept _ _ }
