-- The counts at FIPS 203's three parameter sets, computed, stage by stage.
use Rattle.std.specs.Prelude.{◌≡◌, refl, ℕ}
use Rattle.masked_fips202.specs.MaskedWords.{sha3_512_mask_words, shake256_mask_words}
use Rattle.masked_fips202.specs.EntryCounts.{sha3_512_entries, shake256_entries}
use Rattle.masked_adder.specs.EntryCounts.{adder_entries}
use Rattle.masked_compression.specs.EntryCounts.{compress_entries}
use Rattle.masked_sampler.specs.EntryCounts.{sampler_entries}
use Rattle.masked_comparison.specs.EntryCounts.{all_zero_entries}
use Rattle.parameters.specs.declared.Edition.TheVariants.{MlKem, Kyber}
use Rattle.parameters.specs.declared.Parameters.{Parameters}
use Rattle.parameters.specs.Sets.{ml_kem512, ml_kem768, ml_kem1024}
use Rattle.stages.specs.Counts.{compress_poly_words, noise_words, noise_coeffs}
use Rattle.stages.specs.EntryCounts.{stage1_entries, stage2_entries, stage3_entries, stage4_entries, stage5_entries}
use Rattle.stages.specs.EntryCounts.{stage6_entries, stage7_entries, stage8_entries, stage9_entries, stage10_entries}
use Rattle.stages.specs.EntryCounts.{compress_poly_entries, noise_entries, decrypt_entries}
use Rattle.stages.specs.EntryCounts.{encrypt_entries, compared_entries, last_hash_entries, ending_entries, steps}
use Rattle.stages.specs.Counts.{stage2_words, stage3_words, stage4_coeffs, stage5_words, stage5_coeffs}
use Rattle.stages.specs.Counts.{stage7_words, stage8_words, stage9_words, stage10_words}
use Rattle.stages.specs.Counts.{decrypt_words, encrypt_words, encrypt_coeffs}
use Rattle.stages.specs.Counts.{compared_words, last_hash_words, ending_words, strip_words, strip_coeffs}

-- ---- the stages that are the same for every parameter set

pub record FixedCounts : Type 0 where
  pub stage1_entries : stage1_entries ≡ 512
  pub stage2_entries : stage2_entries ≡ 1464
  pub stage3_entries : stage3_entries ≡ 7842
  pub stage4_entries : stage4_entries ≡ 1024
  pub stage10_entries : stage10_entries ≡ 48
  pub last_hash_entries : last_hash_entries ≡ 7858
  pub stage2_words : stage2_words ≡ 164
  pub stage3_words : stage3_words ≡ 625
  pub stage10_words : stage10_words ≡ 4
  pub last_hash_words : last_hash_words ≡ 625
  pub stage4_coeffs : stage4_coeffs ≡ 256

pub fixed_counts : FixedCounts
unfolding compress_poly_entries compress_poly_words compress_entries adder_entries sha3_512_entries sha3_512_mask_words
    shake256_entries shake256_mask_words
fixed_counts =
    record {
      stage1_entries = refl;
      stage2_entries = refl;
      stage3_entries = refl;
      stage4_entries = refl;
      stage10_entries = refl;
      last_hash_entries = refl;
      stage2_words = refl;
      stage3_words = refl;
      stage10_words = refl;
      last_hash_words = refl;
      stage4_coeffs = refl;
    }

-- ---- the others, and the whole

-- a set's entries of stages 5 to 9, of the worksheet, and of Kyber's
pub record Entries (p : Parameters) (e5 e6 e7 e8 e9 n m : ℕ) : Type 0 where
  pub stage5 : stage5_entries p ≡ e5
  pub stage6 : stage6_entries p ≡ e6
  pub stage7 : stage7_entries p ≡ e7
  pub stage8 : stage8_entries p ≡ e8
  pub stage9 : stage9_entries p ≡ e9
  pub mlkem_steps : steps MlKem p ≡ n
  pub kyber_steps : steps Kyber p ≡ m

-- its mask words of stages 5, 7, 8 and 9, of a strip, and of Kyber's
pub record Words (p : Parameters) (w5 w7 w8 w9 n m : ℕ) : Type 0 where
  pub stage5 : stage5_words p ≡ w5
  pub stage7 : stage7_words p ≡ w7
  pub stage8 : stage8_words p ≡ w8
  pub stage9 : stage9_words p ≡ w9
  pub mlkem_strip : strip_words MlKem p ≡ n
  pub kyber_strip : strip_words Kyber p ≡ m

-- its mask coefficients of stage 5, and of a strip
pub record Coeffs (p : Parameters) (c5 n : ℕ) : Type 0 where
  pub stage5 : stage5_coeffs p ≡ c5
  pub strip : strip_coeffs p ≡ n

pub record CountsTable : Type 0 where
  pub entries512 : Entries ml_kem512 89242 1536 5904 1208 47148 155928 116638
  pub entries768 : Entries ml_kem768 94430 2048 8016 1688 70722 187794 124930
  pub entries1024 : Entries ml_kem1024 121410 2560 10488 2408 94296 242052 155614
  pub words512 : Words ml_kem512 4325 744 101 3625 9588 6588
  pub words768 : Words ml_kem768 4375 1016 141 5425 11750 6950
  pub words1024 : Words ml_kem1024 5625 1348 201 7225 15192 8592
  pub coeffs512 : Coeffs ml_kem512 6144 6400
  pub coeffs768 : Coeffs ml_kem768 7168 7424
  pub coeffs1024 : Coeffs ml_kem1024 9216 9472

pub counts_table : CountsTable
unfolding steps strip_words strip_coeffs ending_entries ending_words compared_entries compared_words
    decrypt_entries decrypt_words encrypt_entries encrypt_words encrypt_coeffs stage5_entries stage5_words stage5_coeffs
    stage6_entries stage7_entries stage7_words stage8_entries stage8_words noise_entries noise_words noise_coeffs
    compress_poly_entries compress_poly_words compress_entries adder_entries sampler_entries all_zero_entries
    sha3_512_entries sha3_512_mask_words shake256_entries shake256_mask_words
counts_table =
    record {
      entries512 = record {
        stage5 = refl;
        stage6 = refl;
        stage7 = refl;
        stage8 = refl;
        stage9 = refl;
        mlkem_steps = refl;
        kyber_steps = refl;
      };
      entries768 = record {
        stage5 = refl;
        stage6 = refl;
        stage7 = refl;
        stage8 = refl;
        stage9 = refl;
        mlkem_steps = refl;
        kyber_steps = refl;
      };
      entries1024 = record {
        stage5 = refl;
        stage6 = refl;
        stage7 = refl;
        stage8 = refl;
        stage9 = refl;
        mlkem_steps = refl;
        kyber_steps = refl;
      };
      words512 =
          record { stage5 = refl; stage7 = refl; stage8 = refl; stage9 = refl; mlkem_strip = refl; kyber_strip = refl };
      words768 =
          record { stage5 = refl; stage7 = refl; stage8 = refl; stage9 = refl; mlkem_strip = refl; kyber_strip = refl };
      words1024 =
          record { stage5 = refl; stage7 = refl; stage8 = refl; stage9 = refl; mlkem_strip = refl; kyber_strip = refl };
      coeffs512 = record { stage5 = refl; strip = refl };
      coeffs768 = record { stage5 = refl; strip = refl };
      coeffs1024 = record { stage5 = refl; strip = refl };
    }
