-- Stages 4 to 7 of the worksheet, re-encryption, as one: nothing is asked of m' and the coins, and each word of the
-- planes can keep either share.
use Rattle.std.specs.Prelude.{ℕ, ◌+◌, true, List}
use Rattle.worksheet.specs.Shares.{Shares}
use Rattle.worksheet.specs.Prog.{Prog, ◌>>=◌}
use Rattle.worksheet.specs.Stage.{Stage, Beside, and_then, and_also, comap}
use Rattle.worksheet.specs.SharedList.{SharedList}
use Rattle.worksheet.specs.Choice.{KeptList, SameShare}
use Rattle.masked_sampler.specs.PolynomialSilence.{Anything}
use Rattle.parameters.specs.declared.Parameters.{Parameters}
use Rattle.stages.specs.EntryCounts.{stage5_entries, stage6_entries, stage7_entries, encrypt_entries}
use Rattle.parameters.specs.Fits.{Fits}
use Rattle.stages.specs.Worksheet.{stage5, stage6, stage7, masked_encrypt, word_count}
use Rattle.silence.specs.NoiseSilence.{SamePolys, stage4-stage, stage5-stage}
use Rattle.silence.specs.ReencryptionSilence.{stage6_stage, stage7-stage}

-- what comes in: m' and the coins
abbrev pub Encrypted : Type 0
Encrypted = SharedList × SharedList

module _ (p : Parameters) (fits : Fits p) (ek : List ℕ) where
  -- from a stage on, by what is live there: mu from stage 5 on, the noise from stage 6 on
  abbrev from6 : List SharedList × (SharedList × Encrypted) → Prog (List Shares)
  from6 a = stage6 p ek a.0 a.1.0 >>= stage7 p

  abbrev from5 : SharedList × Encrypted → Prog (List Shares)
  from5 a = stage5 p a.1.1 >>= λ n. from6 (n, a)

  from6-stage : Stage (Beside (SamePolys (p.k + (p.k + 1))) (Beside SameShare Anything)) (KeptList (word_count p))
      (stage6_entries p + stage7_entries p) from6 from6
  from6-stage =
      comap (Beside (SamePolys (p.k + (p.k + 1))) (Beside SameShare Anything)) operands operands (λ c. (c, (c, tt)))
      (λ c a b r. record { noise = r.main; message = r.side.main })
      (and_then (stage6_stage p ek) (stage7-stage p))
    where
      operands : List SharedList × (SharedList × Encrypted) → List SharedList × SharedList
      operands a = (a.0, a.1.0)

  from5-stage : Stage (Beside SameShare Anything) (KeptList (word_count p))
      (stage5_entries p + (stage6_entries p + stage7_entries p))
      from5 from5
  from5-stage =
      and_also (true, tt)
      (comap Anything (λ (a : SharedList × Encrypted). a.1.1) (λ a. a.1.1) (λ e. e) (λ e a b r. tt)
      (stage5-stage p fits))
      from6-stage

  pub encrypt_stage : Stage Anything (KeptList (word_count p)) (encrypt_entries p)
      (λ (a : Encrypted). masked_encrypt p ek a.0 a.1)
      (λ (a : Encrypted). masked_encrypt p ek a.0 a.1)
  unfolding masked_encrypt encrypt_entries
  encrypt_stage =
      and_also tt
      (comap Anything (λ (a : Encrypted). a.0) (λ a. a.0) (λ e. e) (λ e a b r. tt) stage4-stage) from5-stage
