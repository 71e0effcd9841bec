-- FIPS 203, Algorithm 7, SampleNTT, with its loop as it stands there: nothing bounds it but that 256 coefficients are
-- there. C, the three bytes of a turn, is the stream's next group.
use Rattle.std.specs.Prelude.{cond, ◌&&◌, List, [], ◌∷◌, ◌++◌, ℕ, suc, ◌<◌, ◌≤◌, ltb, length}
use Rattle.words.specs.Residue.{q}
use Rattle.sampling.specs.Sample.{d₁, d₂, kept}

-- lines 5 to 15 on group i: d₁ and then d₂ go behind the coefficients a, of which there are j
unfoldable pub turn : List ℕ → ℕ → List ℕ → List ℕ
turn s i a =
    let b = a ++ kept (d₁ s i) in
    cond (ltb (d₂ s i) q && ltb (length b) 256) (b ++ d₂ s i ∷ []) b

-- line 4: with i groups read and the coefficients a, the loop ends when n groups are read, and a is then r
pub data Returns (s : List ℕ) : ℕ → List ℕ → ℕ → List ℕ → Type 0 where
  stop : {i : ℕ} {a : List ℕ} → 256 ≤ length a → Returns s i a i a
  again : {i n : ℕ} {a r : List ℕ} → length a < 256 → Returns s (suc i) (turn s i a) n r → Returns s i a n r

-- SampleNTT on the stream s reads at most n groups and returns r
pub record ReturnsWithin (n : ℕ) (s r : List ℕ) : Type 0 where
  pub groups : ℕ
  pub few : groups ≤ n
  pub returns : Returns s 0 [] groups r
