-- Turn by turn one number of 2 eta bits is replaced by its coefficient; the others are still as they were.
use borrow.Author.Rules.{rules}
use native.Mathlib.Omega.{arith}
use Rattle.words.specs.Fill.{mapped_start, mapped-below, mapped_turn, mapped_end}
use Rattle.sampling.proofs.centre_all.Goals as goal

pub loop-x-init : goal.loop-x-init
loop-x-init c = mapped_start

pub centred_at-requires : goal.centred_at-requires
centred_at-requires c = search (rules, mapped-below)

pub loop-x-preserved : goal.loop-x-preserved
loop-x-preserved c = mapped_turn c.loop-x.invariant (omega arith) c.centred_at.ensures

pub returns : goal.returns
returns c = mapped_end c.loop-x.invariant (omega arith)
