-- Turn by turn bits move from the numbers to the bytes: what was read is what was written and what the accumulator
-- still holds. At the end it holds nothing, since both strings have the same number of bits.
use mathlib.Core.Path.{◌≡◌, ◌∙◌, ap}
use Prim.Native.Nat.{ℕ, ◌*◌}
use native.Mathlib.Omega.{arith}
use lib.ListN.{length-set}
use lib.Pow.{pow_mono}
use Rattle.codec.specs.Bytes.{bits_of, numbers_of, byte_encode}
use Rattle.codec.proofs.Repack.{repacked_start, repacked_store, repacked_end, loaded_more, loaded_turn}
use Rattle.codec.proofs.encoding.byte_encode.Goals as goal

-- both strings have the same number of bits
bits : (d : ℕ) {m : ℕ} → m ≡ 256 → d * m ≡ d * 256
bits d e = ap (λ (m : ℕ). d * m) e

pub loop-byte-init : goal.loop-byte-init
loop-byte-init c = (omega arith, omega arith, omega arith, repacked_start _ _ _ _)

pub put_above-acc-requires : goal.put_above-acc-requires
put_above-acc-requires c =
    let r = c.loop-n.invariant.2.keeps _ _ c.loop-byte.invariant.3 in
    record {
      places = omega arith;
      lower = r.room;
      upper = omega (arith, c.requires.below.at c.loop-n.i, pow_mono {i = c.args.d} {j = 12} c.requires.most);
    }

pub loop-n-preserved : goal.loop-n-preserved
loop-n-preserved c =
    let i_lt =
    loaded_more c.loop-n.invariant.2 c.loop-byte.invariant.3
    (omega (arith, bits c.args.d c.requires.polynomial)) c.loop-n-test.true (omega arith) in (
      omega arith,
      omega arith,
      rw (c.put_above-acc.ensures, c.wide16.ensures)
          (loaded_turn c.loop-n.invariant.2 i_lt (c.requires.below.at c.loop-n.i)),
    )

pub loop-byte-preserved : goal.loop-byte-preserved
loop-byte-preserved c =
    let r = c.loop-n.invariant.2.keeps _ _ c.loop-byte.invariant.3 in (
      omega arith,
      simp length-set (omega arith),
      omega arith,
      rw (c.high-acc.ensures, c.low_byte.ensures) (repacked_store r c.loop-n-test.false (omega arith)),
    )

pub returns : goal.returns
unfolding byte_encode
returns c =
    let long = c.requires.polynomial in
    repacked_end c.loop-byte.invariant.3 (omega (arith, bits c.args.d long)) c.requires.some (omega arith) (omega arith)
    ∙ ap (λ (m : ℕ). numbers_of 8 m (bits_of c.args.d c.args.f.now)) (omega arith)
