-- Turn by turn one word of z becomes its xor with the mask; the others are still as they were.
use mathlib.Core.Path.{refl, ap}
use Prim.Native.Nat.{ℕ}
use native.Mathlib.Omega.{arith}
use lib.ListN.{get_or}
use Rattle.words.specs.Word.{xor}
use Rattle.words.specs.Fill.{replaced_start, replaced_turn, replaced_end}
use Rattle.split_key.specs.Refresh.{xor_words}
use Rattle.split_key_refresh.proofs.xor_words.Goals as goal

pub loop-i-preserved : goal.loop-i-preserved
unfolding xor
loop-i-preserved c =
    let i = c.loop-i.i in
    let done = c.loop-i.invariant.1 in (
      refl,
      replaced_turn done (omega arith)
          (ap (λ (x : ℕ). xor x (get_or c.args.masks.now i 0)) (done.rest i (omega arith))),
    )

pub returns : goal.returns
unfolding xor_words
returns c = replaced_end c.loop-i.invariant.1 (omega arith)

pub loop-i-init : goal.loop-i-init
loop-i-init c = (refl, replaced_start refl)
