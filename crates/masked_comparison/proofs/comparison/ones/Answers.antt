-- 1 moved up by at most 32 places stays inside the word, so that it is 2^h, and one less has the h lowest bits set.
use Prim.Native.Nat.{ℕ, ◌*◌, ◌-◌, ◌%◌, ◌^◌, ◌≤◌}
use mathlib.Core.Path.{◌≡◌, ap, ◌∙◌}
use native.Mathlib.Nat.{one-mul}
use native.Mathlib.Omega.{arith}
use lib.Pow.{pow_pos, shl_exact}
use Rattle.words.specs.Word.{ones}
use Rattle.masked_comparison.proofs.comparison.ones.Goals as goal

shifted : (h : ℕ) → h ≤ 32 → 1 * 2 ^ h % 2 ^ 64 ≡ 2 ^ h
shifted h l = shl_exact {a = 1} 1 h 64 (omega arith) (omega arith) ∙ one-mul (2 ^ h)

pub returns : goal.returns
unfolding ones
returns c = ap (λ (x : ℕ). x - 1) (shifted c.args.h c.requires)

pub overflow_sub-result : goal.overflow_sub-result
overflow_sub-result c = rw (shifted c.args.h c.requires) (pow_pos c.args.h)
