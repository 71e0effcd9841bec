-- What is lent behind row 1: its lengths; and to the run itself: also the range of masks, and the matrix.
use Rattle.std.specs.Prelude.{◌≡◌, List, ℕ, length, take, drop}
use Rattle.words.specs.Bounded.{Below}
use Rattle.words.specs.Residue.{q}
use Rattle.worksheet.specs.SharedList.{SharedList}
use Rattle.parameters.specs.declared.Edition.{Edition}
use Rattle.parameters.specs.declared.Parameters.{Parameters}
use Rattle.parameters.specs.Fits.{Fits}
use Rattle.parameters.specs.Lengths.{vector_bytes, ek_bytes, ct_bytes}
use Rattle.kpke.specs.Expanded.{Expanded}
use Rattle.split_key.specs.Sized.{SplitSized}
use Rattle.stages.specs.Counts.{strip_words, strip_coeffs}
use Rattle.stages.specs.Lent.{Long}
use Rattle.decapsulation_run.specs.Input.{Input}

pub record Sized (e : Edition) (p : Parameters) (g : Input) : Type 0 where
  pub key : SplitSized p g.key
  pub ct : length g.ct ≡ ct_bytes p
  pub words : length g.words ≡ strip_words e p
  pub coeffs : length g.coeffs ≡ strip_coeffs p

-- with two buffers for the shares of K, at a set within the bounds
pub record CallSized (e : Edition) (p : Parameters) (g : Input) (k : SharedList) : Type 0 where
  pub fits : Fits p
  pub input : Sized e p g
  pub out : Long 4 k

-- ---- for the run itself, also the masks' range, and the matrix a

pub record Runnable (e : Edition) (p : Parameters) (g : Input) (a : List ℕ) (k : SharedList) : Type 0 where
  pub fits : Fits p
  pub input : Sized e p g
  pub range : Below q g.coeffs
  pub matrix : Expanded p.k (drop (vector_bytes p) (take (ek_bytes p) g.key.public)) a
  pub out : Long 4 k
