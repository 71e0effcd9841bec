-- Lane j of both shares takes lane j of the block by one recorded xor; lanes past the block stay as they are.
use Prim.Native.Nat.{◌-◌, ◌/◌}
use lib.ListN.{take}
use Rattle.worksheet.specs.SharedList.{shared_list}
use Rattle.masked_sponge.specs.MaskedSteps.{shared_lane}
use Rattle.masked_sponge.proofs.MaskedLanes.{Mixing}
use Rattle.masked_sponge.proofs.absorb.mix_lanes.Given as goal

-- j lanes are mixed
abbrev pub invariant-loop-j : goal.invariant-loop-j
invariant-loop-j l =
    Mixing (l.rate / 8) (shared_lane (take l.rate l.p0) (take l.rate l.p1))
    (shared_list l.initial.value.s0.lanes l.initial.value.s1.lanes) l.j l.initial.rec l.rec l.value.s0.lanes
    l.value.s1.lanes

abbrev pub decreases-loop-j : goal.decreases-loop-j
decreases-loop-j l = l.rate / 8 - l.j
