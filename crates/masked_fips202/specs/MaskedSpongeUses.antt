-- The sponge on two shares makes as many entries and draws as many words as its counts say, whatever is drawn.
use Rattle.std.specs.Prelude.{ℕ, ◌*◌, ◌/◌, refl, List, length}
use Rattle.std.proofs.Common.{◌∙◌, zero-add, mul-zero, arith}
use Rattle.worksheet.specs.Shares.{Shares}
use Rattle.worksheet.specs.Prog.{mask}
use Rattle.worksheet.specs.Uses.{Uses, ret_u, word_u, uses_recount, uses_bind, uses_map, uses-loop, uses-times}
use Rattle.worksheet.specs.Uses.{uses-chain}
use Rattle.worksheet.specs.SharedList.{SharedList}
use Rattle.worksheet.specs.GatesLaws.{uses-masked_xor}
use Rattle.worksheet.specs.EntryCounts.{xor_entries}
use Rattle.masked_keccak.specs.MaskedKeccak.{keccak_p_words}
use Rattle.masked_keccak.specs.EntryCounts.{keccak_p_entries}
use Rattle.masked_keccak.specs.MaskedKeccakUses.{uses-masked_keccak_p}
use Rattle.masked_sponge.specs.MaskedSponge.{start, mix_lanes, masked_blocks, masked_absorb, masked_squeeze}
use Rattle.masked_sponge.specs.MaskedSponge.{masked_sponge}
use Rattle.masked_sponge.specs.MaskedSponge.{input_blocks, further_blocks, hash_mask_words}
use Rattle.masked_sponge.specs.EntryCounts.{blocks_entries, sponge_entries}
use Rattle.masked_fips202.specs.EntryCounts.{sha3_512_entries, shake256_entries}
use Rattle.masked_sponge.specs.MaskedSponge.{sponge_mask_words}
use Rattle.masked_fips202.specs.MaskedWords.{masked_sha3_512_words, sha3_512_mask_words}
use Rattle.masked_fips202.specs.MaskedWords.{masked_shake256_words, shake256_mask_words}

uses-start : Uses 0 25 0 start
unfolding start mask
uses-start = uses_map _ (uses-times {e = 0} {w = 1} {c = 0} 25 (λ i. word_u (λ x. ret_u)))

uses-mix_lanes : (n : ℕ) (b : ℕ → Shares) (s : SharedList) → Uses (n * xor_entries) 0 0 (mix_lanes n b s)
unfolding mix_lanes
uses-mix_lanes n b s =
    uses_recount refl (mul-zero n) (mul-zero n) (uses_map _ (uses-times n (λ j. uses-masked_xor _ _)))

pub uses-masked_blocks : (lanes n : ℕ) (b : ℕ → ℕ → Shares)
    → Uses (blocks_entries lanes n) (hash_mask_words n) 0 (masked_blocks lanes n b)
unfolding masked_blocks
uses-masked_blocks lanes n b =
    uses_recount (zero-add _) (omega arith) (zero-add (n * 0) ∙ mul-zero n)
    (uses_bind uses-start (λ s. uses-loop n s (λ i t. uses_bind (uses-mix_lanes lanes (b i) t) uses-masked_keccak_p)))

uses-masked_absorb : (rate suffix : ℕ) (in0 in1 : List ℕ)
    → Uses (blocks_entries (rate / 8) (input_blocks rate (length in0)))
    (hash_mask_words (input_blocks rate (length in0))) 0 (masked_absorb rate suffix in0 in1)
unfolding masked_absorb
uses-masked_absorb rate suffix in0 in1 = uses-masked_blocks (rate / 8) (input_blocks rate (length in0)) _

pub uses-masked_squeeze : (lanes n : ℕ) (s : SharedList)
    → Uses (further_blocks lanes n * keccak_p_entries) (further_blocks lanes n * keccak_p_words) 0
    (masked_squeeze lanes n s)
unfolding masked_squeeze
uses-masked_squeeze lanes n s =
    uses_recount refl refl (mul-zero (further_blocks lanes n))
    (uses_map _ (uses-chain (further_blocks lanes n) s (λ j. uses-masked_keccak_p)))

pub uses-masked_sponge : (rate suffix : ℕ) (in0 in1 : List ℕ) (n : ℕ)
    → Uses (sponge_entries rate (length in0) n) (sponge_mask_words rate (length in0) n) 0
    (masked_sponge rate suffix in0 in1 n)
unfolding masked_sponge
uses-masked_sponge rate suffix in0 in1 n =
    uses_recount refl (omega arith) refl
    (uses_bind (uses-masked_absorb rate suffix in0 in1) (uses-masked_squeeze (rate / 8) n))

-- ---- the two hashes, their output in words

pub uses_masked_sha3_512_words : (in0 in1 : List ℕ)
    → Uses (sha3_512_entries (length in0)) (sha3_512_mask_words (length in0)) 0 (masked_sha3_512_words in0 in1)
unfolding masked_sha3_512_words sha3_512_entries sha3_512_mask_words
uses_masked_sha3_512_words in0 in1 = uses-masked_sponge 72 0x06 in0 in1 8

pub uses-masked_shake256_words : (in0 in1 : List ℕ) (n : ℕ)
    → Uses (shake256_entries (length in0) n) (shake256_mask_words (length in0) n) 0 (masked_shake256_words in0 in1 n)
unfolding masked_shake256_words shake256_entries shake256_mask_words
uses-masked_shake256_words in0 in1 n = uses-masked_sponge 136 0x1f in0 in1 n
