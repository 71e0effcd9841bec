-- The lower eta bits and the upper ones are each below 2^eta, so that counting three bits counts theirs.
use mathlib.Core.Path.{◌≡◌, refl, ap, ap₂, ◌∙◌}
use Prim.Native.Nat.{ℕ, zero, suc, ◌+◌, ◌*◌, ◌/◌, ◌%◌, ◌^◌, ◌<◌, ◌≤◌}
use native.Mathlib.Nat.{mod-lt}
use native.Mathlib.Omega.{arith}
use lib.Pow.{pow_pos, pow_mono, shr_lt}
use Rattle.words.specs.Numeral.{digits}
use Rattle.ring.specs.Polynomial.{minus}
use Rattle.sampling.specs.Sample.{sum}
use Rattle.sampling.specs.SampleLaws.{centred}
use Rattle.sampling.proofs.centred_at.Goals as goal

-- a number of eta bits has no ones above them
sum-digits : (eta w : ℕ) → eta ≤ 3 → w < 2 ^ eta → sum (digits 2 3 w) ≡ sum (digits 2 eta w)
unfolding sum digits
sum-digits zero w h l = omega arith
sum-digits (suc zero) w h l = omega arith
sum-digits (suc (suc zero)) w h l = omega arith
sum-digits (suc (suc (suc zero))) w h l = refl
sum-digits (suc (suc (suc (suc n)))) w h l = absurd (omega arith)

upper_lt : (v eta : ℕ) → v < 2 ^ (2 * eta) → v / 2 ^ eta < 2 ^ eta
upper_lt v eta h = let e : eta + eta ≡ 2 * eta = omega arith in shr_lt eta eta (rw e h)

-- the upper half of v, which w widens
upper : {h v w : ℕ} (eta : ℕ) → h ≡ w / 2 ^ eta → w ≡ v → h ≡ v / 2 ^ eta
upper eta e f = e ∙ ap (λ (n : ℕ). n / 2 ^ eta) f

pub returns : goal.returns
unfolding centred
returns c =
    let v = c.args.v in
    let eta = c.args.eta in
    c.difference.ensures
    ∙ ap₂ minus
    (c.weight.ensures.count
    ∙ ap (λ (n : ℕ). sum (digits 2 3 n))
    (c.low.ensures ∙ ap (λ (n : ℕ). n % 2 ^ eta) c.wide16.ensures)
    ∙ sum-digits eta (v % 2 ^ eta) c.requires.most (mod-lt v (pow_pos eta)))
    (c.weight-2.ensures.count
    ∙ ap (λ (n : ℕ). sum (digits 2 3 n)) (upper eta c.high.ensures c.wide16-2.ensures)
    ∙ sum-digits eta (v / 2 ^ eta) c.requires.most (upper_lt v eta c.requires.below))

pub overflow_cast-high : goal.overflow_cast-high
overflow_cast-high c =
    let eta = c.args.eta in
    omega (
      arith,
      upper eta c.high.ensures c.wide16-2.ensures,
      upper_lt c.args.v eta c.requires.below,
      pow_mono {i = eta} {j = 3} c.requires.most,
    )
