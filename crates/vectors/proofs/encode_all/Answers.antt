-- Part i has 256 numbers, and those of a part are below 2 ^ d, as all are.
use Rattle.std.proofs.Common.{◌≤◌, ◌+◌, ◌*◌, length, arith}
use Rattle.words.specs.BoundedLaws.{below-take, below-drop}
use Rattle.words.specs.Part.{length_part}
use Rattle.vectors.proofs.encode_all.Goals as goal

pub write_parts-requires-clause-takes : goal.write_parts-requires-clause-takes
write_parts-requires-clause-takes c i b h e =
    let fits : 256 * i + 256 ≤ length c.args.v.now = omega arith in (
      fits,
      record {
        polynomial = length_part (256 * i) 256 c.args.v.now fits;
        bytes = e;
        some = c.requires.some;
        most = c.requires.most;
        below = below-take 256 (below-drop (256 * i) c.requires.below);
      },
    )
