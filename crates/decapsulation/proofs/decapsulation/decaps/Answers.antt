-- A rank that isn't accepted is refused before anything else; else the call is that with the rank's set.
use mathlib.Core.Path.{refl}
use Rattle.parameters.specs.ByRankLaws.{fits-set, by_rank_ok, by_rank_err}
use Rattle.decapsulation.proofs.decapsulation.decaps.Goals as goal

pub returns-in_err-try_from : goal.returns-in_err-try_from
returns-in_err-try_from c =
    by_rank_err _ c.try_from.ensures c.in_err-try_from.was c.from_residual.result c.from_residual.ensures.1
    (refl, refl, refl)

pub decaps_at-requires : goal.decaps_at-requires
decaps_at-requires c = fits-set c.args.rank c.try_from.ensures c.in_ok-try_from.was

pub returns : goal.returns
returns c = by_rank_ok _ c.try_from.ensures c.in_ok-try_from.was c.decaps_at.ensures
