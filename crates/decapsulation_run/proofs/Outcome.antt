-- What the one function leaves in the lent buffers.
use mathlib.Core.Path.{◌≡◌, sym, ap}
use mathlib.Core.List.{List}
use Prim.Native.Nat.{ℕ, ◌<◌, ◌≤◌}
use lib.ListN.{length}
use Rattle.worksheet.specs.declared.Recorder.{Recorder}
use Rattle.worksheet.specs.Ran.{Ran}
use Rattle.worksheet.specs.SharedList.{SharedList, shared_list}
use Rattle.std.specs.Prelude.{Err}
use Rattle.refusals.specs.declared.Refusal.{Refusal}
use Rattle.refusals.specs.declared.Refusal.TheVariants.{NoSuchStep}
use Rattle.refusals.specs.Refusals.{Done, refusal_number, number, answer}
use Rattle.refusals.specs.RefusalLaws.{refusal_number-positive, after_kept}
use Rattle.tracing.specs.Told.{told_answer}
use Rattle.tracing.proofs.ToldLaws.{told_refused, told_over, told_done, ran-value}
use Rattle.parameters.specs.declared.Edition.{Edition}
use Rattle.parameters.specs.declared.Parameters.{Parameters}
use Rattle.stages.specs.Worksheet.{worksheet}
use Rattle.decapsulation_run.specs.Input.{Input, range_rows, sheet}
use Rattle.decapsulation_run.specs.Told.{Told}

module _ {e : Edition} {p : Parameters} {left : ℕ} {g : Input} {k0 k1 : List ℕ} {v : ℕ} where
  -- a refusal leaves everything
  kept : (r : Refusal) → told_answer (range_rows p g) (length (sheet e p g).entries) left ≡ Err r
      → Told e p left g k0 k1 v (refusal_number r) k0 k1 v
  kept r f =
      let h = refusal_number-positive r in
      record {
        answer = ap number (sym f);
        share0 = after_kept (Err r) _ k0 h;
        share1 = after_kept (Err r) _ k1 h;
        value = after_kept (Err r) _ v h;
      }

  -- by a row
  pub told_row : (r : Refusal) → answer (range_rows p g) ≡ Err r → Told e p left g k0 k1 v (refusal_number r) k0 k1 v
  told_row r f =
      kept r (told_refused (range_rows p g) (length (sheet e p g).entries) left f (refusal_number-positive r))

  -- no row refuses, and the step is past the end
  pub told_past : answer (range_rows p g) ≡ Done → length (sheet e p g).entries < left
      → Told e p left g k0 k1 v (refusal_number NoSuchStep) k0 k1 v
  told_past d h = kept NoSuchStep (told_over (range_rows p g) (length (sheet e p g).entries) d left h)

  -- or not
  pub told-ran : {x y ws cs : List ℕ} {rec : Recorder} → answer (range_rows p g) ≡ Done
      → left ≤ length (sheet e p g).entries
      → Ran (worksheet e p g.key g.ct) (record { left = left; value = 0 }) g.words g.coeffs (shared_list x y)
      rec ws cs
      → Told e p left g k0 k1 v (number Done) x y rec.value
  told-ran d h r =
      record {
        answer =
            ap number
            (sym (told_done (range_rows p g) (length (sheet e p g).entries) d left h));
        share0 = sym (ap (λ (z : SharedList). z.s0) r.value);
        share1 = sym (ap (λ (z : SharedList). z.s1) r.value);
        value = ran-value r;
      }
