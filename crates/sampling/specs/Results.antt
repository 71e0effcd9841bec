-- What the sampling functions say of their results.
use Rattle.std.specs.Prelude.{◌≡◌, Bool, true, List, ℕ, ◌≤◌, length}
use Rattle.words.specs.Numeral.{digits}
use Rattle.refusals.specs.Refusals.{Answer}
use Rattle.sampling.specs.Sample.{kept, sum}
use Rattle.sampling.specs.SampleAnswer.{answer_of}

-- how many numbers are kept of x alone
pub record KeptCount (x r : ℕ) : Type 0 where
  pub count : r ≡ length (kept x)
  pub most : r ≤ 1

-- how many of the three bits of v are 1
pub record BitCount (v r : ℕ) : Type 0 where
  pub count : r ≡ sum (digits 2 3 v)
  pub most : r ≤ 3

-- r says by refusal 7 that what is sampled from is not enough, and where it is, out holds the coefficients
pub record Sampling (enough : Bool) (coefficients : List ℕ) (r : Answer) (out : List ℕ) : Type 0 where
  pub answer : r ≡ answer_of enough
  pub holds : enough ≡ true → out ≡ coefficients
