-- Each turn enters the next lane: the entries so far are those of the first lanes.
use borrow.Author.Rules.{rules}
use Rattle.masked_keccak.proofs.EnteredLanes.{enters_start, enters_turn, enters_end}
use Rattle.masked_keccak.proofs.pass.enter_lanes.Goals as goal

pub loop-lane-init : goal.loop-lane-init
loop-lane-init c = enters_start (search rules)

pub loop-lane-preserved : goal.loop-lane-preserved
loop-lane-preserved c = enters_turn c.loop-lane.invariant (search rules) c.enter-rec.ensures

pub returns : goal.returns
returns c = enters_end c.loop-lane.invariant (search rules)
