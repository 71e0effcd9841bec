-- Lane j of both shares takes lane j of the block by one recorded xor; lanes past the block stay as they are.
use mathlib.Core.Path.{ap₂}
use borrow.Author.Rules.{rules}
use native.Mathlib.Omega.{arith}
use Rattle.worksheet.specs.Sharing.{shares}
use Rattle.fips202.proofs.Absorbing.{lane_part}
use Rattle.masked_sponge.proofs.MaskedLanes.{mixing_start, mixing_turn, mixing_end}
use Rattle.masked_sponge.proofs.absorb.mix_lanes.Goals as goal

pub loop-j-preserved : goal.loop-j-preserved
loop-j-preserved c =
    let a = c.args in
    let j = c.loop-j.j in
    mixing_turn c.loop-j.invariant c.loop-j-test.true
    (ap₂ shares
    (lane_part a.rate a.p0.now j c.loop-j-test.true c.load.ensures)
    (lane_part a.rate a.p1.now j c.loop-j-test.true c.load-in-loop-j.ensures))
    c.masked_xor-o.ensures

pub loop-j-init : goal.loop-j-init
loop-j-init c = mixing_start (omega arith) (search rules) (search rules)

pub returns : goal.returns
returns c = mixing_end c.loop-j.invariant c.loop-j-test.false
