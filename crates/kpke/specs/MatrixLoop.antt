-- A-hat is FIPS 203's: where row 7 doesn't refuse, each of its places is what Algorithm 7's loop returns on XOF's
-- stream, however much of it there is.
use Rattle.std.specs.Prelude.{◌≡◌, true, List, [], ◌∷◌, ◌++◌, ℕ, ◌+◌, ◌<◌, drop}
use Rattle.std.proofs.Common.{sym, ap, ◌∙◌, take-append-drop}
use Rattle.fips202.specs.Sponge.{shake128}
use Rattle.fips202.specs.LongerOutput.{length-shake128, shake128_longer}
use Rattle.sampling.specs.Sample.{full}
use Rattle.sampling.specs.SampleLoop.{ReturnsWithin}
use Rattle.sampling.specs.SampleLoopLaws.{full_returns}
use Rattle.hash_functions.specs.Functions.{XOF}
use Rattle.kpke.specs.KPke.{matrix, matrix_full}
use Rattle.kpke.specs.Expanded.{place_full}

module _ (rho : List ℕ) (i j d : ℕ) where
  -- XOF (section 4.1): SHAKE128 of rho, j and i, d bytes more than the 840
  abbrev pub stream : List ℕ
  stream = shake128 (rho ++ j ∷ i ∷ []) (840 + d)

  begins : stream ≡ XOF rho i j ++ drop 840 stream
  begins =
      sym (take-append-drop 840 stream)
      ∙ ap (λ (l : List ℕ). l ++ drop 840 stream) (shake128_longer (rho ++ j ∷ i ∷ []) 840 d)

  place_returns : full (XOF rho i j) ≡ true → ReturnsWithin 280 stream (matrix rho i j)
  place_returns h =
      rw begins (full_returns (XOF rho i j) (drop 840 stream) (length-shake128 (rho ++ j ∷ i ∷ []) 840) h)

  pub matrix_returns : {k : ℕ} → matrix_full k rho ≡ true → i < k → j < k → ReturnsWithin 280 stream (matrix rho i j)
  matrix_returns {k} h g f = place_returns (place_full k rho h i j g f)
