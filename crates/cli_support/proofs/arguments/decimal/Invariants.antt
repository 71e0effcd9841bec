-- A number so far is at most the largest that is taken: one more digit either keeps it so or makes it none.
use Rattle.std.proofs.Common.{◌≤◌}
use Rattle.cli_support.proofs.arguments.decimal.Given as goal

abbrev pub invariant-loop-b : goal.invariant-loop-b
invariant-loop-b l = l.n ≤ l.most
