-- How many masks each stage draws, for a parameter set, by the counts of its gadgets.
use Rattle.std.specs.Prelude.{ℕ, ◌+◌, ◌-◌, ◌*◌}
use Rattle.masked_fips202.specs.MaskedWords.{sha3_512_mask_words, shake256_mask_words}
use Rattle.masked_compression.specs.Compression.{compress_words}
use Rattle.masked_sampler.specs.Coefficient.{bit_to_coeff_coeffs, sampler_coeffs}
use Rattle.masked_comparison.specs.Comparison.{all_zero_words, select_words}
use Rattle.parameters.specs.declared.Edition.{Edition}
use Rattle.parameters.specs.declared.Edition.TheVariants.{MlKem, Kyber}
use Rattle.parameters.specs.declared.Parameters.{Parameters}
use Rattle.parameters.specs.Lengths.{ct_bytes}
use Rattle.stages.specs.Worksheet.{word_count}

-- ---- parts common to several stages

-- masked compression of a polynomial to depth d
unfoldable pub compress_poly_words : ℕ → ℕ
compress_poly_words d = 4 * compress_words d

-- a noise polynomial of width eta
unfoldable pub noise_words : ℕ → ℕ
noise_words eta = shake256_mask_words 33 (8 * eta)

unfoldable pub noise_coeffs : ℕ → ℕ
noise_coeffs eta = 256 * sampler_coeffs eta

-- ---- the stages that are the same for every parameter set

abbrev pub stage2_words : ℕ
stage2_words = compress_poly_words 1

abbrev pub stage3_words : ℕ
stage3_words = sha3_512_mask_words 64

abbrev pub stage4_coeffs : ℕ
stage4_coeffs = 256 * bit_to_coeff_coeffs

abbrev pub stage10_words : ℕ
stage10_words = 4 * select_words

-- Kyber's last hash, of 64 bytes
abbrev pub last_hash_words : ℕ
last_hash_words = shake256_mask_words 64 4

-- stages 1 and 2
unfoldable pub decrypt_words : ℕ
decrypt_words = stage2_words

module _ (p : Parameters) where
  -- ---- stages 4 to 7
  unfoldable pub stage5_words : ℕ
  stage5_words = p.k * noise_words p.eta1 + (p.k + 1) * noise_words p.eta2

  unfoldable pub stage5_coeffs : ℕ
  stage5_coeffs = p.k * noise_coeffs p.eta1 + (p.k + 1) * noise_coeffs p.eta2

  unfoldable pub stage7_words : ℕ
  stage7_words = p.k * compress_poly_words p.du + compress_poly_words p.dv

  unfoldable pub encrypt_words : ℕ
  encrypt_words = stage5_words + stage7_words

  unfoldable pub encrypt_coeffs : ℕ
  encrypt_coeffs = stage4_coeffs + stage5_coeffs

  -- ---- stages 1 to 8
  unfoldable pub stage8_words : ℕ
  stage8_words = all_zero_words (word_count p - 1)

  unfoldable pub compared_words : ℕ
  compared_words = decrypt_words + (stage3_words + (encrypt_words + stage8_words))

  -- ---- stage 9
  abbrev pub stage9_words : ℕ
  stage9_words = shake256_mask_words (32 + ct_bytes p) 4

  -- ---- the mask coefficients of a strip
  unfoldable pub strip_coeffs : ℕ
  strip_coeffs = encrypt_coeffs

-- ---- what follows stage 8
unfoldable pub ending_words : Edition → Parameters → ℕ
ending_words MlKem p = stage9_words p + stage10_words
ending_words Kyber p = stage10_words + last_hash_words

-- ---- the mask words of a strip
unfoldable pub strip_words : Edition → Parameters → ℕ
strip_words e p = compared_words p + ending_words e p
