-- With a permutation's masks the call is the permutation, whose value is the definition's; with fewer nothing is
-- promised.
use mathlib.Core.Path.{sym}
use mathlib.Core.List.{[]}
use native.Mathlib.Omega.{arith}
use Rattle.bench_calls.proofs.bench_masked_keccak_p.Goals as goal

pub returns-then-masks-lt600 : goal.returns-then-masks-lt600
returns-then-masks-lt600 c h = absurd (omega arith)

pub returns : goal.returns
returns c h = sym (c.permute-o.ensures []).value
