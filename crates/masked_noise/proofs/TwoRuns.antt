-- Stage 5's two runs of polynomials: y's masks stand in front on the strips, those of e1 and e2 behind them.
use mathlib.Core.Path.{◌≡◌, refl, ap}
use mathlib.Core.List.{List, ◌++◌}
use Prim.Native.Nat.{ℕ, ◌+◌, ◌-◌, ◌*◌, ◌≤◌}
use native.Mathlib.Nat.{zero-add}
use native.Mathlib.Omega.{arith}
use lib.ListN.{length, take, drop}
use Rattle.worksheet.specs.declared.Recorder.{Recorder}
use Rattle.worksheet.specs.Prog.{times}
use Rattle.worksheet.specs.ProgLaws.{times_cong}
use Rattle.worksheet.specs.Ran.{Ran, bind, over, part_words, part_coeffs}
use Rattle.worksheet.specs.SharedList.{SharedList}
use Rattle.parameters.specs.declared.Parameters.{Parameters}
use Rattle.stages.specs.Counts.{noise_words, noise_coeffs, stage5_words, stage5_coeffs}
use Rattle.stages.specs.Worksheet.{noise_poly, stage5}
use Rattle.stages.proofs.StoredRun.{ran_as}

module _ (p : Parameters) where
  words_split : noise_words p.eta1 * p.k + noise_words p.eta2 * (p.k + 1) ≡ stage5_words p
  unfolding stage5_words
  words_split = omega arith

  coeffs_split : noise_coeffs p.eta1 * p.k + noise_coeffs p.eta2 * (p.k + 1) ≡ stage5_coeffs p
  unfolding stage5_coeffs
  coeffs_split = omega arith

  -- behind y's masks, w words and c coefficients a polynomial as the code counts them, there are those of e1 and e2
  pub words_behind : (w n : ℕ) → w ≡ noise_words p.eta1 → stage5_words p ≤ n
      → w * p.k + noise_words p.eta2 * (p.k + 1) ≤ n
  words_behind w n e h = rw e (omega (arith, words_split))

  pub coeffs_behind : (c n : ℕ) → c ≡ noise_coeffs p.eta1 → stage5_coeffs p ≤ n
      → c * p.k + noise_coeffs p.eta2 * (p.k + 1) ≤ n
  coeffs_behind c n e h = rw e (omega (arith, coeffs_split))

  from_zero : (coins : SharedList)
      → times p.k (λ i. noise_poly p.eta1 coins (0 + i)) ≡ times p.k (λ i. noise_poly p.eta1 coins i)
  from_zero coins = times_cong p.k (λ i h. ap (noise_poly p.eta1 coins) (zero-add i))

  pub two_runs : (coins : SharedList) (w c : ℕ) {ws cs : List ℕ} {y e : List SharedList} {r r' r'' : Recorder}
      → w ≡ noise_words p.eta1 → c ≡ noise_coeffs p.eta1
      → Ran (times p.k (λ i. noise_poly p.eta1 coins (0 + i))) r ws cs y
      r' (drop (noise_words p.eta1 * p.k) ws) (drop (noise_coeffs p.eta1 * p.k) cs)
      → Ran (times (p.k + 1) (λ i. noise_poly p.eta2 coins (p.k + i)))
      r' (take (length ws - w * p.k) (drop (w * p.k) ws)) (take (length cs - c * p.k) (drop (c * p.k) cs)) e
      r'' (drop (noise_words p.eta2 * (p.k + 1)) (take (length ws - w * p.k) (drop (w * p.k) ws)))
      (drop (noise_coeffs p.eta2 * (p.k + 1)) (take (length cs - c * p.k) (drop (c * p.k) cs)))
      → Ran (stage5 p coins) r ws cs (y ++ e) r'' (drop (stage5_words p) ws) (drop (stage5_coeffs p) cs)
  unfolding stage5
  two_runs coins w c {ws} {cs} f g a b =
      rw (← words_split, ← coeffs_split)
      (bind _ (ran_as (from_zero coins) refl a)
      (bind _
      (part_words ws (noise_words p.eta1 * p.k) _
      (part_coeffs cs (noise_coeffs p.eta1 * p.k) _ (rw (f, g) at b)))
      over))
