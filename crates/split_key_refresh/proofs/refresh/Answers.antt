-- A rank that isn't accepted is refused before anything else; else the call is that with the rank's set.
use mathlib.Core.Path.{refl}
use Rattle.parameters.specs.ByRankLaws.{fits-set, by_rank_ok, by_rank_err}
use Rattle.split_key_refresh.proofs.refresh.Goals as goal

pub returns-in_err-try_from-clause-refreshed : goal.returns-in_err-try_from-clause-refreshed
returns-in_err-try_from-clause-refreshed c =
    by_rank_err _ c.try_from.ensures c.in_err-try_from.was c.from_residual.result c.from_residual.ensures.1
    (refl, refl, refl)

pub refresh_at-requires : goal.refresh_at-requires
refresh_at-requires c = fits-set c.args.rank c.try_from.ensures c.in_ok-try_from.was

pub returns-clause-refreshed : goal.returns-clause-refreshed
returns-clause-refreshed c =
    by_rank_ok _ c.try_from.ensures c.in_ok-try_from.was c.refresh_at.ensures.refreshed
