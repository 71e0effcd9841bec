-- The definition keeps x by the same test, in a list of one number or of none.
use native.Mathlib.Omega.{arith}
use borrow.Author.Tests.{lt-ltb, le-ltb}
use Rattle.sampling.proofs.accepts.Goals as goal

pub returns-then-x-lt3329 : goal.returns-then-x-lt3329
returns-then-x-lt3329 c = record { count = simp (lt-ltb _ _ c.if-x-lt3329.true); most = omega arith }

pub returns-else-x-lt3329 : goal.returns-else-x-lt3329
returns-else-x-lt3329 c = record { count = simp (le-ltb _ _ c.if-x-lt3329.false); most = omega arith }
