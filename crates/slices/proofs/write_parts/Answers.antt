-- Turn i gives f the part i, which no earlier turn has touched, so that k turns write each part once.
use Rattle.std.proofs.Common.{◌<◌, arith}
use Rattle.slices.proofs.Concatenated.{concatenated_start, concatenated_part, concatenated_turn, concatenated_end}
use Rattle.slices.proofs.write_parts.Goals as goal

pub loop-i-init : goal.loop-i-init
loop-i-init g c = (c.requires.long, λ v gives. concatenated_start c.requires.long)

pub loop-i-preserved : goal.loop-i-preserved
loop-i-preserved g c = (
  omega arith,
  λ v gives.
      let h : c.loop-i.i < c.args.k = omega arith in
      let done = c.loop-i.invariant.1 v gives in
      concatenated_turn done h c.f.auto.arg3
      (gives c.loop-i.i _ _ h (concatenated_part done h) c.f.ensures),
)

pub returns : goal.returns
returns g c v gives = concatenated_end (c.loop-i.invariant.1 v gives) (omega arith)
