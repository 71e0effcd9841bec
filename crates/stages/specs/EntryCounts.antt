-- How many entries each stage makes, for a parameter set, by the counts of its gadgets.
use Rattle.std.specs.Prelude.{ℕ, ◌+◌, ◌-◌, ◌*◌}
use Rattle.masked_fips202.specs.EntryCounts.{sha3_512_entries, shake256_entries}
use Rattle.masked_compression.specs.EntryCounts.{compress_entries}
use Rattle.masked_sampler.specs.EntryCounts.{bit_to_coeff_entries, sampler_entries}
use Rattle.masked_comparison.specs.EntryCounts.{select_entries, all_zero_entries}
use Rattle.parameters.specs.declared.Edition.{Edition}
use Rattle.parameters.specs.declared.Edition.TheVariants.{MlKem, Kyber}
use Rattle.parameters.specs.declared.Parameters.{Parameters}
use Rattle.parameters.specs.Lengths.{ct_bytes}
use Rattle.stages.specs.Worksheet.{word_count}

-- a polynomial entered, 256 coefficients of each share
abbrev pub poly_entries : ℕ
poly_entries = 256 + 256

-- masked compression of a polynomial to depth d
unfoldable pub compress_poly_entries : ℕ → ℕ
compress_poly_entries d = 4 * compress_entries d

-- a noise polynomial of width eta
unfoldable pub noise_entries : ℕ → ℕ
noise_entries eta = shake256_entries 33 (8 * eta) + 256 * sampler_entries eta

abbrev pub stage1_entries : ℕ
stage1_entries = poly_entries

abbrev pub stage2_entries : ℕ
stage2_entries = compress_poly_entries 1

abbrev pub stage3_entries : ℕ
stage3_entries = sha3_512_entries 64

abbrev pub stage4_entries : ℕ
stage4_entries = 256 * bit_to_coeff_entries

abbrev pub stage10_entries : ℕ
stage10_entries = 4 * select_entries

-- Kyber's last hash, of 64 bytes
abbrev pub last_hash_entries : ℕ
last_hash_entries = shake256_entries 64 4

-- stages 1 and 2
unfoldable pub decrypt_entries : ℕ
decrypt_entries = stage1_entries + stage2_entries

module _ (p : Parameters) where
  -- ---- stages 4 to 7
  unfoldable pub stage5_entries : ℕ
  stage5_entries = p.k * noise_entries p.eta1 + (p.k + 1) * noise_entries p.eta2

  unfoldable pub stage6_entries : ℕ
  stage6_entries = (p.k + 1) * poly_entries

  unfoldable pub stage7_entries : ℕ
  stage7_entries = p.k * compress_poly_entries p.du + compress_poly_entries p.dv

  unfoldable pub encrypt_entries : ℕ
  encrypt_entries = stage4_entries + (stage5_entries + (stage6_entries + stage7_entries))

  -- ---- stages 1 to 8
  unfoldable pub stage8_entries : ℕ
  stage8_entries = word_count p + all_zero_entries (word_count p - 1)

  unfoldable pub compared_entries : ℕ
  compared_entries = decrypt_entries + (stage3_entries + (encrypt_entries + stage8_entries))

  -- ---- stage 9
  abbrev pub stage9_entries : ℕ
  stage9_entries = shake256_entries (32 + ct_bytes p) 4

-- ---- what follows stage 8
unfoldable pub ending_entries : Edition → Parameters → ℕ
ending_entries MlKem p = stage9_entries p + stage10_entries
ending_entries Kyber p = stage10_entries + last_hash_entries

-- ---- the worksheet's entries
unfoldable pub steps : Edition → Parameters → ℕ
steps e p = compared_entries p + ending_entries e p
