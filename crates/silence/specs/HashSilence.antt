-- SHA3-512 and SHAKE256 of four shared words and a public string, as stages: nothing is asked of the words.
use Rattle.std.specs.Prelude.{ℕ, ◌+◌, ◌≡◌, List, length}
use Rattle.std.proofs.Common.{ap, ◌∙◌}
use Rattle.words.specs.Bounded.{Below}
use Rattle.worksheet.specs.Stage.{Stage, comap}
use Rattle.worksheet.specs.SharedList.{SharedList}
use Rattle.worksheet.specs.Choice.{KeptShared}
use Rattle.masked_fips202.specs.MaskedSpongeSilence.{SharedBytes, masked_sha3_512_words_stage}
use Rattle.masked_fips202.specs.MaskedSpongeSilence.{masked_shake256_words-stage}
use Rattle.masked_fips202.specs.MaskedWords.{masked_sha3_512_words, masked_shake256_words}
use Rattle.masked_fips202.specs.EntryCounts.{sha3_512_entries, shake256_entries}
use Rattle.masked_sampler.specs.PolynomialSilence.{Anything}
use Rattle.stages.specs.Moves.{with_public}
use Rattle.stages.specs.Worksheet.{masked_j}
use Rattle.stages.specs.MovesLaws.{length-with_public, below_with_public0, below_with_public1}

module _ (len : ℕ) (public : List ℕ) (long : length public ≡ len) (bytes : Below 256 public) where
  abbrev inputs : SharedList → SharedBytes (32 + len)
  inputs w =
      record {
        in0 = (with_public w public).s0;
        in1 = (with_public w public).s1;
        long = length-with_public w public ∙ ap (λ (t : ℕ). 32 + t) long;
        below0 = below_with_public0 w public bytes;
        below1 = below_with_public1 w public;
      }

  pub sha3_512_stage : Stage Anything (KeptShared 8) (sha3_512_entries (32 + len))
      (λ w. masked_sha3_512_words (with_public w public).s0 (with_public w public).s1)
      (λ w. masked_sha3_512_words (with_public w public).s0 (with_public w public).s1)
  sha3_512_stage = comap Anything inputs inputs (λ e. e) (λ e a b r. tt) (masked_sha3_512_words_stage (32 + len))

  pub shake256_stage : (n : ℕ)
      → Stage Anything (KeptShared n) (shake256_entries (32 + len) n)
      (λ w. masked_shake256_words (with_public w public).s0 (with_public w public).s1 n)
      (λ w. masked_shake256_words (with_public w public).s0 (with_public w public).s1 n)
  shake256_stage n = comap Anything inputs inputs (λ e. e) (λ e a b r. tt) (masked_shake256_words-stage (32 + len) n)

  pub masked_j-stage : Stage Anything (KeptShared 4) (shake256_entries (32 + len) 4) (λ w. masked_j w public)
      (λ w. masked_j w public)
  unfolding masked_j
  masked_j-stage = shake256_stage 4
