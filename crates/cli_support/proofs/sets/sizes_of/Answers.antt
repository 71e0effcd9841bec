-- The rank's set is one of the three, each of which lies within the bounds in either edition.
use Rattle.std.proofs.Common.{sym, subst}
use Rattle.cli_support.specs.Bounded.{SetBounded}
use Rattle.cli_support.proofs.SetBounds.{bounded}
use Rattle.cli_support.proofs.sets.sizes_of.Goals as goal

pub measured-requires : goal.measured-requires
measured-requires c =
    let made = c.of_rank.ensures in
    (made.fits, subst (SetBounded c.args.e) (sym made.value) (bounded c.args.e c.args.rank))
