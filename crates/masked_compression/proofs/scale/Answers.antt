-- 1 moved up by at most 24 places stays inside the word.
use mathlib.Core.Path.{◌∙◌}
use Prim.Native.Nat.{◌+◌, ◌^◌}
use native.Mathlib.Nat.{one-mul}
use native.Mathlib.Omega.{arith}
use lib.Pow.{shl_exact}
use Rattle.masked_compression.proofs.scale.Goals as goal

pub returns : goal.returns
returns c = shl_exact {a = 1} 1 (c.args.d + 13) 64 (omega arith) (omega arith) ∙ one-mul (2 ^ (c.args.d + 13))
