-- SHA3-512 and SHAKE256 of a message in two shares, the output in words, and the mask words that they draw.
use Rattle.std.specs.Prelude.{List, ℕ}
use Rattle.worksheet.specs.Prog.{Prog}
use Rattle.worksheet.specs.SharedList.{SharedList}
use Rattle.masked_sponge.specs.MaskedSponge.{masked_sponge, sponge_mask_words}

-- ---- SHA3-512, eight words

unfoldable pub masked_sha3_512_words : List ℕ → List ℕ → Prog SharedList
masked_sha3_512_words in0 in1 = masked_sponge 72 0x06 in0 in1 8

unfoldable pub sha3_512_mask_words : ℕ → ℕ
sha3_512_mask_words len = sponge_mask_words 72 len 8

-- ---- SHAKE256, n words

unfoldable pub masked_shake256_words : List ℕ → List ℕ → ℕ → Prog SharedList
masked_shake256_words in0 in1 n = masked_sponge 136 0x1f in0 in1 n

unfoldable pub shake256_mask_words : ℕ → ℕ → ℕ
shake256_mask_words len n = sponge_mask_words 136 len n
