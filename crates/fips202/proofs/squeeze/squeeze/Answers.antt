-- Each block of output comes from a state of its own, one permutation after the one before; what is left at the end is
-- one block at most.
use mathlib.Core.Path.{◌≡◌, refl, ap, ◌∙◌}
use Prim.Native.Nat.{ℕ, suc, ◌+◌, ◌-◌, ◌*◌, ◌/◌, ◌<◌, ◌≤◌}
use Rattle.std.proofs.Common.{add-one, zero-mul, suc-mul, div-add-mod', mod-lt, mul-le-mul_right}
use native.Mathlib.Omega.{arith}
use lib.ListN.{length}
use Rattle.words.specs.Iterate.{iterate}
use Rattle.keccak.specs.KeccakP.{keccak_p}
use Rattle.fips202.specs.Sponge.{squeezed}
use Rattle.fips202.proofs.Output.{output_start, output_part, output_end}
use Rattle.fips202.proofs.squeeze.squeeze.Goals as goal

-- the k / rate blocks before the last of n = k + 1 bytes
block_within : {k n i : ℕ} (rate : ℕ) → k ≤ n → i < k / rate → i * rate + rate ≤ n
block_within {k} {i = i} rate h l =
    omega (arith, mul-le-mul_right {m = suc i} {n = k / rate} rate l, suc-mul i rate, div-add-mod' k rate)

blocks_within : (k rate : ℕ) → k / rate * rate ≤ k
blocks_within k rate = omega (arith, div-add-mod' k rate)

last_block : {k : ℕ} (n rate : ℕ) → 0 < rate → k ≡ n - 1 → n - k / rate * rate ≤ rate
last_block {k} n rate h e = omega (arith, div-add-mod' k rate, mod-lt k h)

pub loop-i-init : goal.loop-i-init
unfolding iterate
loop-i-init c = (rw (zero-mul c.args.rate) (output_start refl), refl)

pub loop-i-preserved : goal.loop-i-preserved
unfolding iterate
loop-i-preserved c =
    let i = c.loop-i.i in
    let rate = c.args.rate in
    let output = c.loop-i.invariant.0 in
    let reached = c.loop-i.invariant.1 in
    let less = c.saturating_sub.ensures in
    let within = block_within {n = length c.args.out.now} rate (omega arith) c.loop-i-test.true in (
      rw (add-one i, suc-mul i rate)
          (output_part i output refl reached (omega arith) within (omega arith) c.extract.ensures),
      rw (add-one i) (c.permute-t.ensures ∙ ap keccak_p reached),
    )

pub returns : goal.returns
unfolding squeezed
returns c =
    let k = c.saturating_sub.result in
    let rate = c.args.rate in
    let less = c.saturating_sub.ensures in
    let long = c.loop-i.auto.out in
    let i : c.loop-i.i ≡ k / rate = omega arith in
    output_end
    (output_part (k / rate) (rw i at c.loop-i.invariant.0) refl (rw i at c.loop-i.invariant.1)
    (omega (arith, blocks_within k rate)) (omega arith)
    (last_block (length c.loop-i.out) rate c.requires.0 (omega arith))
    c.extract-2.ensures)
    (omega arith)
