-- Demand 2 for the call, at any parameter set within the bounds: where decapsulation is carried out, the two shares
-- that it leaves, which are those of the worksheet's last part, join to the edition's decapsulation of the joined key,
-- whatever the strip and for every ciphertext.
use Rattle.std.specs.Prelude.{◌≡◌, ℕ}
use Rattle.std.proofs.Common.{sym, ◌∙◌}
use Rattle.std.proofs.Math.Path.{ap₂}
use mathlib.Core.List.{List}
use Rattle.words.specs.BoundedLaws.{below-drop}
use Rattle.words.specs.LittleEndian.{words_to_bytes}
use Rattle.worksheet.specs.SharedList.{shared_list, joined_list}
use Rattle.refusals.specs.RefusalLaws.{number-done}
use Rattle.parameters.specs.declared.Edition.{Edition}
use Rattle.parameters.specs.declared.Parameters.{Parameters}
use Rattle.parameters.specs.Fits.{Fits}
use Rattle.parameters.specs.Lengths.{ek_bytes}
use Rattle.mlkem.specs.Editions as kem
use Rattle.refusals.specs.ReducedLaws.{reduced-below}
use Rattle.meaning.specs.JoinedDk.{joined_dk}
use Rattle.meaning.specs.InOrder.{InOrder}
use Rattle.meaning.proofs.WorksheetValue.{run-worksheet}
use Rattle.decapsulation_run.specs.Input.{Input}
use Rattle.decapsulation.specs.Calls.{Typed, decaps_answer, decaps_shares, Decapsulated}
use Rattle.decapsulation.specs.AnswerLaws.{Tested, decaps_tested}

module _ {e : Edition} {p : Parameters} {g : Input} {limit count₀ count : ℕ} {k0₀ k1₀ k0 k1 : List ℕ}
    (d : Decapsulated e p g limit count₀ k0₀ k1₀ 0 count k0 k1) where
  pub decapsulated_tested : Tested e p g limit count₀
  decapsulated_tested =
      decaps_tested e p g limit count₀ k0₀ k1₀
      (number-done (decaps_answer e p g limit count₀ k0₀ k1₀) (sym d.answer))

  key_in_order : Typed g → InOrder p g.key
  key_in_order types =
      record {
        long = decapsulated_tested.long.key;
        words0 = types.z0;
        words1 = types.z1;
        bytes = below-drop (ek_bytes p) types.public;
      }

  pub decaps_joins : Fits p → Typed g
      → words_to_bytes 8 (joined_list (shared_list k0 k1)) ≡ kem.decaps e p (joined_dk p g.key) g.ct
  unfolding decaps_shares
  decaps_joins fits types =
      let t = decapsulated_tested in
      ap₂ (λ (x y : List ℕ). words_to_bytes 8 (joined_list (shared_list x y))) d.share0 d.share1
      ∙ run-worksheet e p fits g.key (key_in_order types) g.ct t.long.ct types.ct types.words
      (reduced-below g.coeffs t.masks)
