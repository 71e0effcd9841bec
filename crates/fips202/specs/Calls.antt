-- What the hash calls answer, and what the lent output then holds.
use Rattle.std.specs.Prelude.{◌≡◌, not, List, [], ◌∷◌, ℕ, length}
use Rattle.refusals.specs.declared.Refusal.TheVariants.{WrongLength}
use Rattle.refusals.specs.Refusals.{Answer, Done, number, row, answer, after, lent, sized}
use Rattle.fips202.specs.Sponge.{sha3_256, sha3_512, shake128, shake256}

-- a call that fills an output of n bytes and refuses any other
unfoldable pub sized_answer : ℕ → List ℕ → Answer
sized_answer n out = answer (row (not (sized (lent out n ∷ []))) WrongLength ∷ [])

-- a call answers r, whose number is n, and its output, which held old, then holds new: the hash where n is 0
pub record Hashed (r : Answer) (hash old : List ℕ) (n : ℕ) (new : List ℕ) : Type 0 where
  pub answer : n ≡ number r
  pub out : new ≡ after n hash old

-- ---- the four calls: of the message m and the output, as it was and as it is

abbrev pub sha3_256_call : List ℕ → List ℕ → ℕ → List ℕ → Type 0
sha3_256_call m out n out' = Hashed (sized_answer 32 out) (sha3_256 m) out n out'

abbrev pub sha3_512_call : List ℕ → List ℕ → ℕ → List ℕ → Type 0
sha3_512_call m out n out' = Hashed (sized_answer 64 out) (sha3_512 m) out n out'

-- none is refused
abbrev pub shake128_call : List ℕ → List ℕ → ℕ → List ℕ → Type 0
shake128_call m out n out' = Hashed Done (shake128 m (length out)) out n out'

abbrev pub shake256_call : List ℕ → List ℕ → ℕ → List ℕ → Type 0
shake256_call m out n out' = Hashed Done (shake256 m (length out)) out n out'
