-- A rank that isn't accepted is refused before anything else; else the call is that with the rank's set.
use mathlib.Core.Path.{refl}
use Rattle.parameters.specs.ByRankLaws.{fits-set, by_rank_ok, by_rank_err}
use Rattle.split_key_import.proofs.import.Goals as goal

pub returns-in_err-try_from-clause-imported : goal.returns-in_err-try_from-clause-imported
returns-in_err-try_from-clause-imported c =
    by_rank_err _ c.try_from.ensures c.in_err-try_from.was c.from_residual.result c.from_residual.ensures.1
    refl

pub import_at-requires : goal.import_at-requires
import_at-requires c = fits-set c.args.rank c.try_from.ensures c.in_ok-try_from.was

pub returns-clause-imported : goal.returns-clause-imported
returns-clause-imported c =
    by_rank_ok _ c.try_from.ensures c.in_ok-try_from.was c.import_at.ensures.imported
