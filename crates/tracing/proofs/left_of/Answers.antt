-- The test is the definition's own, so each branch is one of its two cases.
use borrow.Author.Tests.{lt-ltb, le-ltb}
use native.Mathlib.Omega.{arith}
use Rattle.tracing.proofs.left_of.Goals as goal

pub returns-then-step-steps : goal.returns-then-step-steps
returns-then-step-steps c = rw (lt-ltb c.args.step c.args.steps (omega arith))

pub returns : goal.returns
returns c = rw (le-ltb c.args.step c.args.steps (omega arith))
