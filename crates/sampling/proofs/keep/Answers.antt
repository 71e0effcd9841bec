-- The three ways through the code are the three laws of collecting: x has a place, finds none, or is not below q.
use Rattle.sampling.specs.Collect.{collected_store, collected_full, collected_drop}
use Rattle.sampling.proofs.keep.Goals as goal

pub returns-then-k-f : goal.returns-then-k-f
returns-then-k-f = λ c l h. collected_store h c.args.x c.if-x-lt3329.true c.if-k-f.true

pub returns-then-x-lt3329 : goal.returns-then-x-lt3329
returns-then-x-lt3329 = λ c l h. collected_full h c.args.x c.if-k-f.false

pub returns : goal.returns
returns = λ c l h. collected_drop h c.args.x c.if-x-lt3329.false
