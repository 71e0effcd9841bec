-- Stage 5: the joined coefficients of the noise are those that FIPS 203 samples from the joined coins.
use Rattle.std.specs.Prelude.{◌≡◌, cond, List, [], ◌∷◌, ◌++◌, ℕ, ◌+◌, ◌*◌, ◌/◌, ◌%◌, ◌<◌, ◌≤◌, ltb, get_or}
use Rattle.std.proofs.Common.{sym, ap, ap₂, ◌∙◌, mul-le-mul_right, lt-ltb, le-ltb}
use native.Mathlib.Omega.{arith}
use Rattle.words.specs.BoundedLaws.{below_nil, below_cons}
use Rattle.words.specs.Tab.{tab}
use Rattle.words.specs.TabLaws.{tab_cong, tab_of}
use Rattle.words.specs.DigitLaws.{digit_lt}
use Rattle.codec.specs.Bytes.{bits_of}
use Rattle.ring.specs.Polynomial.{minus}
use Rattle.sampling.specs.Sample.{sum, sample_poly_cbd}
use Rattle.sampling.specs.SampleLaws.{length-sample_poly_cbd}
use Rattle.fips202.specs.Sponge.{shake256}
use Rattle.worksheet.specs.Turns.{Each}
use Rattle.worksheet.specs.Flatten.{each_append}
use Rattle.worksheet.specs.Gives.{Gives, ret_g, gives_bind, gives-times}
use Rattle.worksheet.specs.Sharing.{joined, none}
use Rattle.worksheet.specs.SharedList.{SharedList}
use Rattle.masked_sampler.specs.SamplerLaws.{binomial, gives-sampler, get_or-sample_poly_cbd}
use Rattle.parameters.specs.declared.Parameters.{Parameters}
use Rattle.kpke.specs.KPke.{noise}
use Rattle.parameters.specs.Fits.{Fits}
use Rattle.stages.specs.Moves.{string_bit}
use Rattle.stages.specs.Worksheet.{noise_poly, stage5}
use Rattle.meaning.specs.StageSharing.{PolySharing, BytesSharing}
use Rattle.meaning.specs.StageSharingLaws.{poly_sharing_unzip, bytes_sharing_length, joined-string_bit}
use Rattle.meaning.specs.HashValue.{gives_shake}

-- the binomial reads 2 eta bits
binomial_cong : (eta : ℕ) {x y : ℕ → ℕ} → ((j : ℕ) → j < 2 * eta → x j ≡ y j) → binomial eta x ≡ binomial eta y
unfolding binomial
binomial_cong eta e =
    ap₂ (λ (s t : List ℕ). minus (sum s) (sum t)) (tab_cong eta (λ j h. e j (omega arith)))
    (tab_cong eta (λ j h. e (eta + j) (omega arith)))

module _ (eta : ℕ) {b : List ℕ} {s : SharedList} (a : BytesSharing (8 * eta) b s) where
  -- bit j of coefficient i
  bit_at : (i j : ℕ) → i < 256 → j < 2 * eta
      → get_or (bits_of 8 b) (2 * i * eta + j) 0 ≡ joined (string_bit s (2 * eta * i + j))
  bit_at i j h g =
      let e : 2 * i * eta + j ≡ 2 * eta * i + j = omega arith in
      let n = mul-le-mul_right {m = i + 1} {n = 256} eta (omega arith) in
      ap (λ (k : ℕ). get_or (bits_of 8 b) k 0) e ∙ sym (joined-string_bit a (2 * eta * i + j) (omega arith))

  sampled : sample_poly_cbd eta b ≡ tab 256 (λ i. binomial eta (λ j. joined (string_bit s (2 * eta * i + j))))
  sampled =
      tab_of 0 (sample_poly_cbd eta b) 256 (length-sample_poly_cbd eta b) (λ i h.
      get_or-sample_poly_cbd eta b i (bytes_sharing_length a ∙ omega arith) h
      ∙ binomial_cong eta (λ j g. bit_at i j h g))

-- noise polynomial j of the 2 k + 1: the first k have width eta1, the others eta2
module _ (p : Parameters) (r : List ℕ) where
  unfoldable pub noise_of : ℕ → List ℕ
  noise_of j = noise (cond (ltb j p.k) p.eta1 p.eta2) r j

  pub noise_of_first : (j : ℕ) → j < p.k → noise_of j ≡ noise p.eta1 r j
  unfolding noise_of
  noise_of_first j h = rw (lt-ltb j p.k h)

  pub noise_of_later : (j : ℕ) → p.k ≤ j → noise_of j ≡ noise p.eta2 r j
  unfolding noise_of
  noise_of_later j h = rw (le-ltb j p.k h)

module _ {r : List ℕ} {s : SharedList} (a : BytesSharing 4 r s) where
  gives-noise_poly : (eta n : ℕ) → 0 < eta → n < 256 → Gives (PolySharing (noise eta r n)) (noise_poly eta s n)
  unfolding noise_poly
  gives-noise_poly eta n h b =
      let e : 8 * (8 * eta) ≡ 64 * eta = omega arith in
      gives_bind (gives_shake (n ∷ []) (below_cons b (below_nil (omega arith))) a (8 * eta)) (λ o w.
      gives_bind
      (gives-times _ 256 (λ i k.
      gives-sampler eta (λ j. string_bit o (2 * eta * i + j)) h
      (λ j g. digit_lt ((2 * eta * i + j) % 64) (get_or o.s0 ((2 * eta * i + j) / 64) 0))))
      (λ f t.
      ret_g
      (rw (ap (λ (d : ℕ). sample_poly_cbd eta (shake256 (r ++ n ∷ []) d)) (sym e) ∙ sampled eta w)
      (poly_sharing_unzip (λ i k. t.at none i k)))))

  pub gives-stage5 : (p : Parameters) → Fits p
      → Gives (Each (λ j. PolySharing (noise_of p r j)) (p.k + (p.k + 1))) (stage5 p s)
  unfolding stage5
  gives-stage5 p fits =
      let b = fits.rank.most in
      gives_bind
      (gives-times (λ i. PolySharing (noise_of p r i)) p.k (λ i h.
      rw (noise_of_first p r i h) (gives-noise_poly p.eta1 i fits.eta1.least (omega arith))))
      (λ y f.
      gives_bind
      (gives-times (λ i. PolySharing (noise_of p r (p.k + i))) (p.k + 1) (λ i h.
      rw (noise_of_later p r (p.k + i) (omega arith))
      (gives-noise_poly p.eta2 (p.k + i) fits.eta2.least (omega arith))))
      (λ e g.
      ret_g (each_append f g)))
