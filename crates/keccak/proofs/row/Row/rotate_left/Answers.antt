-- Each of the five lanes is rotated by the library's rotate_left, at a number of places below 64.
use borrow.Author.Rules.{rules}
use Rattle.keccak.proofs.Rotated.{rotated}
use Rattle.keccak.proofs.row.Row.rotate_left.Goals as goal

pub returns : goal.returns
returns c =
    let k = c.requires in
    rw (
      c.rotate_left.ensures,
      c.rotate_left-2.ensures,
      c.rotate_left-3.ensures,
      c.rotate_left-4.ensures,
      c.rotate_left-5.ensures,
      rotated {x = c.args.self.a} (search rules) k.first,
      rotated {x = c.args.self.b} (search rules) k.second,
      rotated {x = c.args.self.c} (search rules) k.third,
      rotated {x = c.args.self.d} (search rules) k.fourth,
      rotated {x = c.args.self.e} (search rules) k.fifth,
    )
