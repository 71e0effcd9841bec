-- Demand 3: under any two accepted keys with one public part, and so with one stored hash, and for any ciphertext,
-- equally many choices give a value at a step.
use Rattle.std.specs.Prelude.{ℕ, ◌*◌, ◌^◌, ◌<◌, ◌≡◌, refl, List, replicate}
use Rattle.std.proofs.Common.{sym, ap₂, ◌∙◌, zero-add, arith}
use Rattle.std.proofs.Math.Path.{ap}
use Rattle.std.proofs.Math.Decide.{dec_lt}
use Rattle.words.specs.Residue.{q}
use Rattle.worksheet.specs.Sum.{when}
use Rattle.worksheet.specs.CountLaws.{tally_cong}
use Rattle.worksheet.specs.Uses.{length-entries}
use Rattle.worksheet.specs.Couple.{SameAt, equal_hits, same_at_right, same_at_recount}
use Rattle.parameters.specs.declared.Edition.{Edition}
use Rattle.parameters.specs.declared.Parameters.{Parameters}
use Rattle.parameters.specs.Fits.{Fits}
use Rattle.mlkem.specs.MlKem.{public_part}
use Rattle.kpke.specs.KPke.{matrix_full}
use Rattle.mlkem.specs.Calls.{rho_of}
use Rattle.split_key.specs.SplitKey.{public_of}
use Rattle.split_key.specs.AcceptedLaws.{accepted_public}
use Rattle.stages.specs.Counts.{strip_words, strip_coeffs}
use Rattle.stages.specs.EntryCounts.{steps}
use Rattle.silence.specs.Claim.{Key, Ciphertext, choices, Silent}
use Rattle.silence.proofs.WorksheetSilence.{worksheet-stage}
use Rattle.silence.specs.SplitSilence.{coupled_firsts, coupled_words}
use Rattle.silence.proofs.DrawnChoices.{length_hash, below_hash, drawn, drawn-public, counted}
use Rattle.silence.proofs.DrawnChoices.{uses-split, hits-drawn-counted, gives_past}

module _ (e : Edition) (p : Parameters) where
  module _ (fits : Fits p) {dk dk' c : List ℕ} (key : Key p dk) (key' : Key p dk') (ct : Ciphertext p c)
      (same : public_part p dk ≡ public_part p dk') where
    same_at_drawn : (t : ℕ) → t < steps e p → SameAt t (drawn e p dk c) (drawn e p dk' c)
    same_at_drawn t h =
        let public = public_of p dk in
        let whole = worksheet-stage p fits public c (length_hash key) (below_hash key) ct.long ct.bytes e in
        let x = whole.entry t h in
        let same-public = accepted_public p key'.accepts key.accepts (sym same) in
        same_at_recount (zero-add t)
        (same_at_right
        (coupled_firsts p dk dk' x.0.0) (λ a a' r.
        same_at_recount (zero-add t)
        (same_at_right (coupled_words p dk dk' key.bytes key'.bytes x.0.1) (λ w w' u.
        rw (drawn-public e p dk a w refl, drawn-public e p dk' a' w' same-public)
        (x.1 _ _ (record { main = r; side = u }))))))

    counted_equal : (t v : ℕ) → Dec (t < steps e p) → counted e p dk c t v ≡ counted e p dk' c t v
    counted_equal t v (yes h) =
        sym (hits-drawn-counted e p key ct t v)
        ∙ equal_hits (same_at_drawn t h) v
        ∙ hits-drawn-counted e p key' ct t v
    counted_equal t v (no h) =
        tally_cong (replicate (256 * p.k) q) (λ a.
        tally_cong (replicate 4 (2 ^ 64)) (λ w.
        tally_cong (replicate (strip_words e p) (2 ^ 64)) (λ ws.
        tally_cong (replicate (strip_coeffs p) q) (λ cs.
        gives_past e p key ct t v (omega arith) a w ws cs ∙ sym (gives_past e p key' ct t v (omega arith) a w ws cs)))))

pub demand3 : (e : Edition) (p : Parameters) → Fits p
    → Silent e p (steps e p) (choices e p (256 * p.k) (strip_words e p) (strip_coeffs p))
unfolding choices
demand3 e p fits =
    record {
      steps = λ key ct a w ws cs. length-entries (uses-split e p key ct a w) ws cs;
      equal = λ key key' ct same t v.
          ap₂ when (ap (λ (ek : List ℕ). matrix_full p.k (rho_of p ek)) same)
          (counted_equal e p fits key key' ct same t v (dec_lt t (steps e p)));
    }
