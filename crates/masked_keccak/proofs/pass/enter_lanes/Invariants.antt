-- Each turn enters the next lane: the entries so far are those of the first lanes.
use Rattle.masked_keccak.proofs.EnteredLanes.{EntersFirst}
use Rattle.masked_keccak.proofs.pass.enter_lanes.Given as goal

-- so many lanes entered
abbrev pub invariant-loop-lane : goal.invariant-loop-lane
invariant-loop-lane l = EntersFirst 25 l.lane-items l.lane-index l.initial.rec l.rec
