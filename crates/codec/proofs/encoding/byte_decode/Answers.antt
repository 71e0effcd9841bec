-- Turn by turn bits move from the bytes to the numbers: what was read is what was written and what the accumulator
-- still holds. At the end it holds nothing, since both strings have the same number of bits.
use mathlib.Core.Path.{◌≡◌, ◌∙◌, ap}
use Prim.Native.Nat.{ℕ, ◌*◌}
use native.Mathlib.Omega.{arith}
use lib.ListN.{length-set}
use Rattle.codec.specs.Bytes.{bits_of, numbers_of, byte_decode}
use Rattle.codec.proofs.Repack.{repacked_start, repacked_store, repacked_end, loaded_more, loaded_turn}
use Rattle.codec.proofs.encoding.byte_decode.Goals as goal

-- both strings have the same number of bits
bits : (d : ℕ) {m : ℕ} → m ≡ 256 → d * m ≡ d * 256
bits d e = ap (λ (m : ℕ). d * m) e

pub loop-x-init : goal.loop-x-init
loop-x-init c = (omega arith, omega arith, omega arith, repacked_start _ _ _ _)

pub loop-n-preserved : goal.loop-n-preserved
loop-n-preserved c =
    let i_lt =
    loaded_more c.loop-n.invariant.2 c.loop-x.invariant.3
    (omega (arith, bits c.args.d c.loop-x.invariant.1)) c.loop-n-test.true (omega arith) in
    let byte_fits = (c.type_inv.b c.loop-n.i).fits in (
      omega arith,
      omega arith,
      rw (c.put_above-acc.ensures, c.wide8.ensures) (loaded_turn c.loop-n.invariant.2 i_lt byte_fits),
    )

pub loop-x-preserved : goal.loop-x-preserved
loop-x-preserved c =
    let r = c.loop-n.invariant.2.keeps _ _ c.loop-x.invariant.3 in (
      omega arith,
      simp length-set (omega arith),
      omega arith,
      rw (c.high-acc.ensures, c.low.ensures) (repacked_store r c.loop-n-test.false (omega arith)),
    )

pub returns : goal.returns
unfolding byte_decode
returns c =
    let long = c.loop-x.invariant.1 in
    repacked_end c.loop-x.invariant.3 (omega (arith, bits c.args.d long)) (omega arith) (omega arith) (omega arith)
    ∙ ap (λ (m : ℕ). numbers_of c.args.d m (bits_of 8 c.args.b.now)) long
