-- SHA3-512 and SHAKE256 on two shares: their output words join to words that hold the bytes of FIPS 202's output.
use Rattle.std.specs.Prelude.{◌≡◌, List, ℕ, ◌*◌, length}
use Rattle.std.proofs.Common.{ap, ◌∙◌}
use Rattle.words.specs.Bounded.{Below}
use Rattle.words.specs.LittleEndian.{words_to_bytes}
use Rattle.words.specs.LittleEndianLaws.{words_to_bytes-tab}
use Rattle.words.specs.Tab.{tab}
use Rattle.worksheet.specs.Gives.{Gives, gives_weaken}
use Rattle.worksheet.specs.SharedList.{shared_list, joined_list}
use Rattle.fips202.specs.Sponge.{byte_of, sha3_512, shake256}
use Rattle.fips202.specs.Words.{sha3_512_words, shake256_words}
use Rattle.fips202.specs.OutputLaws.{length_sha3_512_words, length-shake256_words, sha3_512_bytes, shake256_bytes}
use Rattle.masked_fips202.specs.MaskedSpongeValue as words
use Rattle.masked_fips202.specs.MaskedWords.{masked_sha3_512_words, masked_shake256_words}
use Rattle.meaning.specs.StageSharing.{BytesSharing}

-- n words by their bytes
words_to_bytes_of : {n : ℕ} (l : List ℕ) → length l ≡ n → words_to_bytes 8 l ≡ tab (8 * n) (byte_of l)
words_to_bytes_of l e = words_to_bytes-tab 8 l ∙ ap (λ (n : ℕ). tab (8 * n) (byte_of l)) e

module _ {in0 in1 : List ℕ} (e : length in0 ≡ length in1) (b0 : Below 256 in0) (b1 : Below 256 in1) where
  abbrev message : List ℕ
  message = joined_list (shared_list in0 in1)

  pub gives_masked_sha3_512_words : Gives (BytesSharing 8 (sha3_512 message)) (masked_sha3_512_words in0 in1)
  gives_masked_sha3_512_words =
      gives_weaken (λ z s.
      record {
        words = sha3_512_words message;
        sharing = s;
        bytes = words_to_bytes_of (sha3_512_words message) (length_sha3_512_words message) ∙ sha3_512_bytes message;
      })
      (words.gives_masked_sha3_512_words e b0 b1)

  pub gives-masked_shake256_words : (n : ℕ)
      → Gives (BytesSharing n (shake256 message (8 * n))) (masked_shake256_words in0 in1 n)
  gives-masked_shake256_words n =
      gives_weaken (λ z s.
      record {
        words = shake256_words message n;
        sharing = s;
        bytes =
            words_to_bytes_of (shake256_words message n) (length-shake256_words message n) ∙ shake256_bytes message n;
      })
      (words.gives-masked_shake256_words e b0 b1 n)
