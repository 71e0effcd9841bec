-- The pass writes to uv, so that the noise is read whole before its first places are overwritten.
use mathlib.Core.Path.{◌∙◌, ap}
use lib.ListN.{length}
use lib.Seq.{take_at}
use Rattle.masked_encryption_passes.proofs.PassLaws.{length-uv_pass}
use Rattle.masked_encryption_passes.proofs.uv_over.Goals as goal

pub returns : goal.returns
returns c =
    let h = c.copy_coefficients.ensures ∙ c.uv_pass.ensures in
    take_at _ _ _ (ap length h ∙ length-uv_pass _ _ _ _ _) ∙ h
