-- Each lane of the row is the exclusive or of one lane and of another, turned by one place: effect_row, lane by lane.
use borrow.Author.Rules.{rules}
use native.Mathlib.Omega.{arith}
use Rattle.words.specs.Word.{xor}
use Rattle.keccak.proofs.Rotated.{rotated}
use Rattle.keccak.proofs.row.Row.effect.Goals as goal

pub returns : goal.returns
unfolding xor
returns c =
    let r = c.args.self in
    rw (
      c.rotate_left.ensures,
      c.rotate_left-2.ensures,
      c.rotate_left-3.ensures,
      c.rotate_left-4.ensures,
      c.rotate_left-5.ensures,
      rotated {x = r.a} {k = 1} (search rules) (omega arith),
      rotated {x = r.b} {k = 1} (search rules) (omega arith),
      rotated {x = r.c} {k = 1} (search rules) (omega arith),
      rotated {x = r.d} {k = 1} (search rules) (omega arith),
      rotated {x = r.e} {k = 1} (search rules) (omega arith),
    )
