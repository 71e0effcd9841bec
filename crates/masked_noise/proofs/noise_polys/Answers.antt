-- Turn i makes noise polynomial n + i with the words and coefficients of its own, and writes it at place i.
use mathlib.Core.Path.{◌≡◌}
use Prim.Native.Nat.{ℕ, ◌+◌, ◌*◌, ◌<◌, ◌≤◌}
use native.Mathlib.Nat.{le_refl}
use native.Mathlib.Omega.{arith}
use Rattle.words.specs.Part.{part_within, length_span}
use Rattle.stages.specs.LentLaws.{masks_rest}
use Rattle.stages.proofs.StoredRun.{written_start, written_turn, written_end, fits0, fits1}
use Rattle.stages.proofs.StoredRun.{both_start, both_turn, length_rest}
use Rattle.masked_noise.proofs.noise_polys.Goals as goal

-- part i of k parts of w elements each, which are counted as n, lies within m
within : {w n m k i : ℕ} → w ≡ n → n * k ≤ m → i < k → w * i + w ≤ m
within {w} e h t = part_within w (rw e h) t

pub noise_poly-rec-requires : goal.noise_poly-rec-requires
noise_poly-rec-requires c =
    let l = c.loop-i in
    let t = c.loop-i-test.true in
    let w = c.noise_words-words in
    let m = c.noise_coeffs-coeffs in
    let e = w.ensures.value in
    let f = m.ensures.value in
    record {
      width = c.requires.width;
      numbers = omega arith;
      coins = c.requires.coins;
      words = length_rest (w.result * l.i) _ c.args.ws.now (omega (arith, within e c.requires.words t));
      coeffs = masks_rest (m.result * l.i) _ (omega (arith, within f (le_refl _) t)) c.requires.coeffs;
      out =
          record {
            long0 = length_span (256 * l.i) 256 l.f0 (fits0 l.invariant t);
            long1 = length_span (256 * l.i) 256 l.f1 (fits1 l.invariant t);
          };
    }

pub loop-i-preserved : goal.loop-i-preserved
loop-i-preserved c =
    let l = c.loop-i in
    let o = c.noise_poly-rec in
    written_turn l.invariant o.new.f0 o.new.f1 c.loop-i-test.true o.auto.f0 o.auto.f1
    (both_turn l.invariant.ran
    (rw (← c.noise_words-words.ensures.value, ← c.noise_coeffs-coeffs.ensures.value) at o.ensures))

pub returns : goal.returns
returns c =
    rw (← c.noise_words-words.ensures.value, ← c.noise_coeffs-coeffs.ensures.value)
    (written_end c.loop-i.invariant c.loop-i-test.false).ran

pub loop-i-init : goal.loop-i-init
loop-i-init c = written_start (omega arith) (omega arith) both_start
