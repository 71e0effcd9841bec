-- What a stage of passes leaves: their outcomes are entered, and all coefficients are below q.
use Rattle.std.specs.Prelude.{ℕ}
use Rattle.worksheet.specs.declared.Recorder.{Recorder}
use Rattle.worksheet.specs.Prog.{Prog}
use Rattle.worksheet.specs.Ran.{Makes}
use Rattle.worksheet.specs.SharedList.{SharedList}
use Rattle.stages.specs.Lent.{Residues}

-- p gives what f reads from the n coefficients z
pub record MakesResidues {A : Type 0} (p : Prog A) (r : Recorder) (n : ℕ) (f : SharedList → A) (z : SharedList)
    (r' : Recorder) : Type 0 where
  pub ran : Makes p r (f z) r'
  pub range : Residues n z
