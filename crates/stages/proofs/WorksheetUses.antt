-- How much the worksheet does, stage by stage, for a parameter set: the gadgets' counts add up, whatever is drawn.
use Rattle.std.specs.Prelude.{ℕ, ◌+◌, ◌-◌, ◌*◌, ◌≡◌, List, [], ◌∷◌, length}
use Rattle.std.proofs.Math.Path.{refl}
use Rattle.std.proofs.Common.{ap, ◌∙◌, zero-add, mul-zero, arith}
use Rattle.worksheet.specs.Shares.{Shares}
use Rattle.worksheet.specs.Prog.{entry}
use Rattle.worksheet.specs.Uses.{Uses, ret_u, enter_u, uses_recount, uses_bind, uses_map, uses-times}
use Rattle.worksheet.specs.SharedList.{SharedList}
use Rattle.worksheet.specs.Pass.{enter_both}
use Rattle.fips202.specs.OutputLaws.{length_sha3_256}
use Rattle.masked_fips202.specs.MaskedSpongeUses.{uses_masked_sha3_512_words, uses-masked_shake256_words}
use Rattle.masked_fips202.specs.MaskedWords.{shake256_mask_words}
use Rattle.masked_fips202.specs.EntryCounts.{shake256_entries}
use Rattle.masked_compression.specs.CompressionLaws.{uses-masked_compress}
use Rattle.masked_sampler.specs.CoefficientLaws.{uses-bit_to_coeff}
use Rattle.masked_sampler.specs.SamplerLaws.{uses-sampler}
use Rattle.masked_comparison.specs.Comparison.{all_zero_words, select_all}
use Rattle.masked_comparison.specs.ComparisonLaws.{uses-add_public, uses-all_zero, uses-select}
use Rattle.parameters.specs.declared.Edition.{Edition}
use Rattle.parameters.specs.declared.Edition.TheVariants.{MlKem, Kyber}
use Rattle.parameters.specs.declared.Parameters.{Parameters}
use Rattle.parameters.specs.Lengths.{ct_bytes}
use Rattle.split_key.specs.SplitKey.{SplitKey, ek_of, h_of}
use Rattle.stages.specs.Moves.{with_public, coins_of}
use Rattle.stages.specs.MovesLaws.{length-with_public}
use Rattle.stages.specs.Worksheet.{compress_poly, noise_poly, word_count, stage1, stage2, stage3, stage4, stage5}
use Rattle.stages.specs.Worksheet.{stage6, stage7, stage8, stage10, masked_j, masked_decrypt, masked_encrypt}
use Rattle.stages.specs.Worksheet.{Compared, compared, ending, worksheet}
use Rattle.stages.specs.Counts.{compress_poly_words, noise_words}
use Rattle.stages.specs.EntryCounts.{stage1_entries, stage2_entries, stage3_entries, stage4_entries, stage5_entries}
use Rattle.stages.specs.EntryCounts.{stage6_entries, stage7_entries, stage8_entries, stage10_entries}
use Rattle.stages.specs.EntryCounts.{poly_entries, compress_poly_entries, noise_entries, decrypt_entries}
use Rattle.stages.specs.EntryCounts.{encrypt_entries, compared_entries, ending_entries, steps}
use Rattle.stages.specs.Counts.{noise_coeffs, decrypt_words, stage5_words}
use Rattle.stages.specs.Counts.{stage5_coeffs, stage7_words}
use Rattle.stages.specs.Counts.{encrypt_words, encrypt_coeffs, stage8_words}
use Rattle.stages.specs.Counts.{compared_words, ending_words, strip_words, strip_coeffs}
use Rattle.stages.specs.Counts.{stage2_words, stage3_words}
use Rattle.stages.specs.Counts.{stage4_coeffs, stage10_words}

-- ---- parts common to several stages

uses_poly : (f g : List ℕ) → Uses poly_entries 0 0 (enter_both 256 f g)
unfolding enter_both entry
uses_poly f g =
    uses_bind (uses-times 256 (λ i. enter_u ret_u)) (λ a. uses_map _ (uses-times 256 (λ i. enter_u ret_u)))

uses-compress_poly : (d : ℕ) (f : SharedList)
    → Uses (compress_poly_entries d) (compress_poly_words d) 0 (compress_poly d f)
unfolding compress_poly compress_poly_entries compress_poly_words
uses-compress_poly d f = uses_map _ (uses-times 4 (λ g. uses-masked_compress d _))

uses-noise_poly : (eta : ℕ) (coins : SharedList) (n : ℕ)
    → Uses (noise_entries eta) (noise_words eta) (noise_coeffs eta) (noise_poly eta coins n)
unfolding noise_poly noise_entries noise_words noise_coeffs
uses-noise_poly eta coins n =
    uses_recount refl (omega arith) (omega arith)
    (uses_bind
    (rw (length-with_public coins (n ∷ [])) at
    (uses-masked_shake256_words (with_public coins (n ∷ [])).s0 (with_public coins (n ∷ [])).s1 (8 * eta))) (λ o.
    uses_map _ (uses-times 256 (λ i. uses-sampler eta _))))

-- ---- the stages that are the same for every parameter set

uses-stage2 : (w : SharedList) → Uses stage2_entries stage2_words 0 (stage2 w)
unfolding stage2
uses-stage2 w = uses_map _ (uses-compress_poly 1 w)

uses-stage3 : (m : SharedList) (h : List ℕ) → length h ≡ 32
    → Uses stage3_entries stage3_words 0 (stage3 m h)
unfolding stage3
uses-stage3 m h e =
    rw (length-with_public m h ∙ ap (λ (n : ℕ). 32 + n) e) at
    (uses_masked_sha3_512_words (with_public m h).s0 (with_public m h).s1)

uses-stage4 : (m : SharedList) → Uses stage4_entries 0 stage4_coeffs (stage4 m)
unfolding stage4
uses-stage4 m = uses_map _ (uses-times 256 (λ i. uses-bit_to_coeff 1665 _))

-- stage 9, and Kyber's last hash
uses-masked_j : (w : SharedList) (string : List ℕ) {n : ℕ} → length string ≡ n
    → Uses (shake256_entries (32 + n) 4) (shake256_mask_words (32 + n) 4) 0 (masked_j w string)
unfolding masked_j
uses-masked_j w string e =
    rw (length-with_public w string ∙ ap (λ (n : ℕ). 32 + n) e) at
    (uses-masked_shake256_words (with_public w string).s0 (with_public w string).s1 4)

uses-stage10 : (b : Shares) (g rejected : SharedList) → Uses stage10_entries stage10_words 0 (stage10 b g rejected)
unfolding stage10 select_all
uses-stage10 b g rejected = uses_map _ (uses-times 4 (λ j. uses-select _ _ _))

module _ (p : Parameters) where
  -- ---- the others

  uses-stage1 : (s : SharedList) (c : List ℕ) → Uses stage1_entries 0 0 (stage1 p s c)
  unfolding stage1
  uses-stage1 s c = uses_poly _ _

  uses-stage5 : (coins : SharedList) → Uses (stage5_entries p) (stage5_words p) (stage5_coeffs p) (stage5 p coins)
  unfolding stage5 stage5_entries stage5_words stage5_coeffs
  uses-stage5 coins =
      uses_bind (uses-times p.k (λ i. uses-noise_poly p.eta1 coins _)) (λ y.
      uses_map _ (uses-times (p.k + 1) (λ i. uses-noise_poly p.eta2 coins _)))

  uses-stage6 : (ek : List ℕ) (n : List SharedList) (mu : SharedList)
      → Uses (stage6_entries p) 0 0 (stage6 p ek n mu)
  unfolding stage6 stage6_entries
  uses-stage6 ek n mu =
      uses_recount refl (mul-zero (p.k + 1)) (mul-zero (p.k + 1)) (uses-times (p.k + 1) (λ i. uses_poly _ _))

  uses-stage7 : (r : List SharedList) → Uses (stage7_entries p) (stage7_words p) 0 (stage7 p r)
  unfolding stage7 stage7_entries stage7_words
  uses-stage7 r =
      uses_recount refl refl (omega arith)
      (uses_bind (uses-times p.k (λ i. uses-compress_poly p.du _)) (λ u. uses_map _ (uses-compress_poly p.dv _)))

  uses-stage8 : (c : List ℕ) (w : List Shares) → Uses (stage8_entries p) (stage8_words p) 0 (stage8 p c w)
  unfolding stage8 stage8_entries stage8_words
  uses-stage8 c w =
      uses_recount refl (zero-add (all_zero_words (word_count p - 1))) refl
      (uses_bind (uses-add_public (word_count p) _ _) (λ d. uses-all_zero (word_count p - 1) _))

  -- ---- the whole

  uses-masked_decrypt : (s : SharedList) (c : List ℕ)
      → Uses decrypt_entries decrypt_words 0 (masked_decrypt p s c)
  unfolding masked_decrypt decrypt_entries decrypt_words
  uses-masked_decrypt s c =
      uses_recount refl (zero-add stage2_words) refl (uses_bind (uses-stage1 s c) uses-stage2)

  uses-masked_encrypt : (ek : List ℕ) (m coins : SharedList)
      → Uses (encrypt_entries p) (encrypt_words p) (encrypt_coeffs p) (masked_encrypt p ek m coins)
  unfolding masked_encrypt encrypt_entries encrypt_words encrypt_coeffs
  uses-masked_encrypt ek m coins =
      uses_recount refl (omega arith) (omega arith)
      (uses_bind (uses-stage4 m) (λ mu.
      uses_bind (uses-stage5 coins) (λ n.
      uses_bind (uses-stage6 ek n mu) uses-stage7)))

  module _ (key : SplitKey) (c : List ℕ) (h-long : length (h_of p key) ≡ 32) where
    uses-compared : Uses (compared_entries p) (compared_words p) (encrypt_coeffs p) (compared p key c)
    unfolding compared compared_entries compared_words
    uses-compared =
        uses_recount refl refl (omega arith)
        (uses_bind (uses-masked_decrypt key.s c) (λ m.
        uses_bind (uses-stage3 m (h_of p key) h-long) (λ g.
        uses_bind (uses-masked_encrypt (ek_of p key) m (coins_of g)) (λ w.
        uses_map _ (uses-stage8 c w)))))

-- what follows stage 8
uses-ending : (e : Edition) (p : Parameters) (o : Compared) (z : SharedList) (c : List ℕ) → length c ≡ ct_bytes p
    → Uses (ending_entries e p) (ending_words e p) 0 (ending e o z c)
unfolding ending ending_entries ending_words
uses-ending MlKem p o z c long =
    uses_bind (uses-masked_j z c long) (λ rejected. uses-stage10 o.equal o.g rejected)
uses-ending Kyber p o z c long =
    uses_bind (uses-stage10 o.equal o.g z) (λ w. uses-masked_j w _ (length_sha3_256 c))

pub uses-worksheet : (e : Edition) (p : Parameters) (key : SplitKey) (c : List ℕ) → length (h_of p key) ≡ 32
    → length c ≡ ct_bytes p → Uses (steps e p) (strip_words e p) (strip_coeffs p) (worksheet e p key c)
unfolding worksheet steps strip_words strip_coeffs
uses-worksheet e p key c h-long c-long =
    uses_recount refl refl (omega arith)
    (uses_bind (uses-compared p key c h-long) (λ o. uses-ending e p o key.z c c-long))
