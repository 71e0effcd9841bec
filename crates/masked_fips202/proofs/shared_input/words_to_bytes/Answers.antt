-- Turn i writes the eight bytes of word i behind those of the words before it.
use mathlib.Core.Path.{refl, ◌∙◌}
use Prim.Native.Nat.{◌*◌}
use native.Mathlib.Omega.{arith}
use Rattle.words.specs.Part.{length_span}
use Rattle.slices.proofs.Concatenated.{concatenated_start, concatenated_turn, concatenated_end}
use Rattle.masked_fips202.proofs.SharedInput.{bytes_concat}
use Rattle.masked_fips202.proofs.shared_input.words_to_bytes.Goals as goal

pub store-requires : goal.store-requires
store-requires c = let l = c.loop-i in length_span (8 * l.i) 8 l.out (omega arith)

pub loop-i-preserved : goal.loop-i-preserved
loop-i-preserved c =
    (refl, concatenated_turn c.loop-i.invariant.1 (omega arith) c.store.auto.p c.store.ensures)

pub returns : goal.returns
returns c = concatenated_end c.loop-i.invariant.1 (omega arith) ∙ bytes_concat c.args.w.now

pub loop-i-init : goal.loop-i-init
loop-i-init c = (refl, concatenated_start (omega arith))
