-- A count over all choices asks only of choices in range, and a test that no choice decides may stand before the count.
use Rattle.std.specs.Prelude.{◌≡◌, Bool, List, ℕ, ◌^◌, length, replicate}
use Rattle.std.proofs.Common.{◌∙◌, arith}
use Rattle.words.specs.Bounded.{Below}
use Rattle.words.specs.Residue.{q}
use Rattle.worksheet.specs.Sum.{when}
use Rattle.worksheet.specs.Count.{tally, strips}
use Rattle.worksheet.specs.InRange.{tally-below, tally-when}
use Rattle.silence.specs.Claim.{over_choices}

module _ (firsts words coeffs : ℕ) where
  -- a choice: first coefficients a and words w, and a strip of words ws and coefficients cs
  pub record Choice (a w ws cs : List ℕ) : Type 0 where
    pub firsts_long : length a ≡ firsts
    pub firsts_below : Below q a
    pub z_long : length w ≡ 4
    pub words_long : length ws ≡ words
    pub coeffs_long : length cs ≡ coeffs
    pub coeffs_below : Below q cs

  pub over_choices-when : (b : Bool) {f : List ℕ → List ℕ → List ℕ → List ℕ → ℕ}
      (g : List ℕ → List ℕ → List ℕ → List ℕ → ℕ)
      → ((a w ws cs : List ℕ) → Choice a w ws cs → f a w ws cs ≡ when b (g a w ws cs))
      → over_choices firsts words coeffs f ≡ when b (over_choices firsts words coeffs g)
  over_choices-when b g h =
      tally-below firsts q (omega arith) (λ a la ra.
      tally-below 4 (2 ^ 64) (omega arith) (λ w lw bw.
      tally-below words (2 ^ 64) (omega arith) (λ ws lws bws.
      tally-below coeffs q (omega arith) (λ cs lcs rcs.
      h a w ws cs
      (record {
        firsts_long = la;
        firsts_below = ra;
        z_long = lw;
        words_long = lws;
        coeffs_long = lcs;
        coeffs_below = rcs;
      }))
      ∙ tally-when b (replicate coeffs q) (g a w ws))
      ∙ tally-when b (replicate words (2 ^ 64)) (λ ws. tally (replicate coeffs q) (g a w ws)))
      ∙ tally-when b (replicate 4 (2 ^ 64)) (λ w. strips words coeffs (g a w)))
      ∙ tally-when b (replicate firsts q) (λ a. tally (replicate 4 (2 ^ 64)) (λ w. strips words coeffs (g a w)))
