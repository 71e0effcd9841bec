-- Laws of rows 5 to 7, and of the worksheet's count.
use Rattle.std.specs.Prelude.{◌≡◌, true, not, ◌&&◌, [], ◌∷◌, length}
use Rattle.std.proofs.Common.{◌∙◌, arith, length-drop}
use Rattle.worksheet.specs.Uses.{length-entries}
use Rattle.refusals.specs.declared.Refusal.TheVariants.{MaskRange, ShareRange, ShortStream}
use Rattle.refusals.specs.Refusals.{Answer, row, answer}
use Rattle.refusals.specs.RefusalLaws.{passed}
use Rattle.refusals.specs.Reduced.{reduced}
use Rattle.parameters.specs.declared.Edition.{Edition}
use Rattle.parameters.specs.declared.Parameters.{Parameters}
use Rattle.parameters.specs.Lengths.{ek_bytes}
use Rattle.kpke.specs.KPke.{matrix_full}
use Rattle.mlkem.specs.Calls.{rho_of}
use Rattle.split_key.specs.SplitKey.{ek_of}
use Rattle.stages.specs.EntryCounts.{steps}
use Rattle.stages.proofs.WorksheetUses.{uses-worksheet}
use Rattle.decapsulation_run.specs.Input.{Input, range_rows, sheet}
use Rattle.decapsulation_run.specs.Sized.{Sized}

module _ (p : Parameters) (g : Input) where
  -- rows 5 and 6 passed
  pub range_passed : {x : Answer} → reduced g.coeffs ≡ true
      → (reduced g.key.s.s0 && reduced g.key.s.s1) ≡ true
      → answer (row (not (matrix_full p.k (rho_of p (ek_of p g.key)))) ShortStream ∷ []) ≡ x
      → answer (range_rows p g) ≡ x
  range_passed m s h = passed MaskRange _ m (passed ShareRange _ s h)

-- the worksheet's count
pub sheet-steps : (e : Edition) (p : Parameters) (g : Input) → Sized e p g → length (sheet e p g).entries ≡ steps e p
sheet-steps e p g l =
    length-entries
    (uses-worksheet e p g.key g.ct (length-drop (ek_bytes p) g.key.public ∙ omega (arith, l.key.public))
    l.ct)
    g.words g.coeffs
