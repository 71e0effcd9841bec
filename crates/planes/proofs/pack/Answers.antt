-- Turn i fills row i with the definition's word, in which And with 32 ones is the remainder by 2^32.
use Prim.Native.Nat.{ℕ, ◌*◌, ◌%◌, ◌^◌, ◌+◌}
use mathlib.Core.Path.{ap}
use native.Mathlib.Omega.{arith}
use lib.Bits.{bit_xor, and_mask}
use lib.ListN.{get_or}
use Rattle.words.specs.Fill.{filled_start, filled_turn, filled_end}
use Rattle.words.specs.Word.{xor, low}
use Rattle.planes.specs.Transposition.{packed}
use Rattle.planes.proofs.pack.Goals as goal

pub loop-i-preserved : goal.loop-i-preserved
unfolding packed xor low
loop-i-preserved c =
    let l = c.loop-i in
    let v = c.args.v.now in (
      omega arith,
      filled_turn l.invariant.1 (omega arith)
          (ap (λ (z : ℕ). bit_xor z (get_or v (l.i + 32) 0 * 2 ^ 32 % 2 ^ 64)) (and_mask (get_or v l.i 0) 32)),
    )

pub loop-i-init : goal.loop-i-init
loop-i-init c = (omega arith, filled_start (omega arith))

pub returns : goal.returns
returns c = filled_end c.loop-i.invariant.1 (omega arith)
