-- The edition decides which of the two endings runs, and each is the definition's for that edition.
use mathlib.Core.Path.{◌≡◌}
use mathlib.Core.List.{List}
use Prim.Native.Nat.{ℕ}
use lib.ListN.{drop}
use Rattle.parameters.specs.declared.Edition.{Edition}
use Rattle.parameters.specs.declared.Parameters.{Parameters}
use Rattle.worksheet.specs.declared.Recorder.{Recorder}
use Rattle.worksheet.specs.Shares.{Shares}
use Rattle.worksheet.specs.Ran.{Ran}
use Rattle.worksheet.specs.SharedList.{SharedList}
use Rattle.stages.specs.Counts.{ending_words}
use Rattle.stages.specs.Worksheet.{Compared, ending}
use Rattle.decapsulation_endings.specs.Lent.{EndingInput}
use Rattle.decapsulation_endings.proofs.ending.Goals as goal

-- ---- the edition e is the one that the code has been told, f
module _ {e f : Edition} (told : e ≡ f) where
  input-told : {p : Parameters} {equal : Shares} {g z k : SharedList} {c ws : List ℕ}
      → EndingInput e p equal g z c ws k → EndingInput f p equal g z c ws k
  input-told i = rw told at i

  ran-told : (p : Parameters) (o : Compared) (z : SharedList) (c : List ℕ) {k : SharedList} {ws cs : List ℕ}
      {r r' : Recorder} → Ran (ending f o z c) r ws cs k r' (drop (ending_words f p) ws) cs
      → Ran (ending e o z c) r ws cs k r' (drop (ending_words e p) ws) cs
  ran-told p o z c h = rw told h

-- ---- needs
pub mlkem_ending-requires : goal.mlkem_ending-requires
mlkem_ending-requires c = input-told c.in-MlKem.is c.requires

pub kyber_ending-requires : goal.kyber_ending-requires
kyber_ending-requires c = input-told c.in-Kyber.is c.requires

pub returns-in-MlKem : goal.returns-in-MlKem
returns-in-MlKem c cs =
    ran-told c.in-MlKem.is _ _ _ _ (c.mlkem_ending.ensures cs)

pub returns-in-Kyber : goal.returns-in-Kyber
returns-in-Kyber c cs =
    ran-told c.in-Kyber.is _ _ _ _ (c.kyber_ending.ensures cs)
