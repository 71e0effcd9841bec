-- One pair a turn, by the law of pairs that the transform and its inverse share.
use borrow.Author.Rules.{rules}
use native.Mathlib.Omega.{arith}
use Rattle.transform.proofs.Layers.{paired-start, paired_turn, paired_end}
use Rattle.transform.proofs.transform.block_at.Goals as goal

pub returns : goal.returns
returns g c = paired_end c.loop-j.invariant (omega arith)

pub loop-j-init : goal.loop-j-init
loop-j-init g c = paired-start

pub loop-j-preserved : goal.loop-j-preserved
loop-j-preserved g c = search (rules, paired_turn)
