-- What is lent to decapsulation and to trace to be read, the rows that are tried on it behind row 1, and what the
-- worksheet does for it.
use Rattle.std.specs.Prelude.{not, ◌&&◌, List, [], ◌∷◌, ℕ}
use Rattle.worksheet.specs.Run.{Run, run}
use Rattle.worksheet.specs.SharedList.{SharedList}
use Rattle.refusals.specs.declared.Refusal.TheVariants.{MaskRange, ShareRange, ShortStream}
use Rattle.refusals.specs.Refusals.{Row, row}
use Rattle.refusals.specs.Reduced.{reduced}
use Rattle.parameters.specs.declared.Edition.{Edition}
use Rattle.parameters.specs.declared.Parameters.{Parameters}
use Rattle.kpke.specs.KPke.{matrix_full}
use Rattle.mlkem.specs.Calls.{rho_of}
use Rattle.split_key.specs.SplitKey.{SplitKey, split_key, ek_of}
use Rattle.stages.specs.Worksheet.{worksheet}

-- what is lent to be read: a split key, a ciphertext and a strip
pub record Input : Type 0 where
  pub key : SplitKey
  pub ct : List ℕ
  pub words : List ℕ
  pub coeffs : List ℕ

-- by the slices that are lent
abbrev pub input : List ℕ → List ℕ → List ℕ → List ℕ → List ℕ → List ℕ → List ℕ → List ℕ → Input
input s0 s1 z0 z1 public ct words coeffs =
    record { key = split_key s0 s1 z0 z1 public; ct = ct; words = words; coeffs = coeffs }

-- rows 5, 6 and 7
abbrev pub range_rows : Parameters → Input → List Row
range_rows p g =
    row (not (reduced g.coeffs)) MaskRange
    ∷ row (not (reduced g.key.s.s0 && reduced g.key.s.s1)) ShareRange
    ∷ row (not (matrix_full p.k (rho_of p (ek_of p g.key)))) ShortStream
    ∷ []

module _ (e : Edition) (p : Parameters) where
  -- what the worksheet does for this key, ciphertext and strip
  abbrev pub sheet : Input → Run SharedList
  sheet g = run (worksheet e p g.key g.ct) g.words g.coeffs
