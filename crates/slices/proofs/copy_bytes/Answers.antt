-- Turn i puts byte i of s at place i of out, so after one turn a place out is s.
use mathlib.Core.Path.{refl, sym}
use native.Mathlib.Omega.{arith}
use Rattle.words.specs.Fill.{filled_start, filled_turn, filled_copy}
use Rattle.slices.proofs.copy_bytes.Goals as goal

pub loop-i-init : goal.loop-i-init
loop-i-init c = filled_start (sym c.requires)

pub loop-i-preserved : goal.loop-i-preserved
loop-i-preserved c = filled_turn c.loop-i.invariant (omega arith) refl

pub returns : goal.returns
returns c = filled_copy 0 c.loop-i.invariant (omega arith)
