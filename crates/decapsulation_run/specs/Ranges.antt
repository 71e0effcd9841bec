-- The tests of rows 5 to 7: what they are lent, and what they leave.
use Rattle.std.specs.Prelude.{◌≡◌, List, ℕ, ◌+◌, ◌*◌, length, take, drop}
use Rattle.refusals.specs.Refusals.{Answer, Done, answer}
use Rattle.parameters.specs.declared.Parameters.{Parameters}
use Rattle.parameters.specs.Fits.{Fits}
use Rattle.parameters.specs.Lengths.{vector_bytes, ek_bytes}
use Rattle.kpke.specs.Expanded.{Expanded}
use Rattle.decapsulation_run.specs.Input.{Input, range_rows}

-- the public key with h, and where the matrix goes
pub record RangesInput (p : Parameters) (key a : List ℕ) : Type 0 where
  pub fits : Fits p
  pub public : length key ≡ ek_bytes p + 32
  pub room : length a ≡ 256 * p.k * p.k

-- for what is lent: the rows' answer r, and where none applies the matrix a
pub record RangesTested (p : Parameters) (g : Input) (r : Answer) (a : List ℕ) : Type 0 where
  pub answer : r ≡ answer (range_rows p g)
  pub matrix : r ≡ Done → Expanded p.k (drop (vector_bytes p) (take (ek_bytes p) g.key.public)) a
