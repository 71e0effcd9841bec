-- Stage 8 of the worksheet: the words of the planes with the ciphertext's, folded to the equal bit.
use Rattle.std.specs.Prelude.{ℕ, List, get_or}
use Rattle.std.proofs.Common.{arith}
use Rattle.worksheet.specs.Shares.{Shares}
use Rattle.worksheet.specs.Stage.{Stage, comap}
use Rattle.worksheet.specs.Sharing.{none}
use Rattle.worksheet.specs.Choice.{Kept, KeptList}
use Rattle.masked_comparison.specs.ComparisonSilence.{compare-stage}
use Rattle.parameters.specs.declared.Parameters.{Parameters}
use Rattle.stages.specs.EntryCounts.{stage8_entries}
use Rattle.parameters.specs.Fits.{Fits}
use Rattle.stages.specs.PlanesLaws.{below-ciphertext_planes}
use Rattle.stages.specs.Worksheet.{ciphertext_planes, stage8, word_count}
use Rattle.silence.specs.Recount.{stage_recount}

pub stage8-stage : (p : Parameters) → Fits p → (c : List ℕ)
    → Stage (KeptList (word_count p)) (Kept 1) (stage8_entries p) (stage8 p c) (stage8 p c)
unfolding stage8 stage8_entries
stage8-stage p f c =
    stage_recount (omega arith)
    (comap (KeptList (word_count p)) (λ (w : List Shares) j. get_or w j none) (λ w j. get_or w j none) (λ e. e)
    (λ e a b r. record { at = λ j h. r.at none none j h })
    (compare-stage (word_count p) (λ j. get_or (ciphertext_planes p c) j 0) (omega (arith, f.dv.least))
    (λ j. record { lt = (below-ciphertext_planes p c).at j })))
