-- The gates: how many entries they make and how many masks they draw. What they join to is said in GatesSharing.
use Rattle.std.specs.Prelude.{ℕ}
use Rattle.worksheet.specs.Shares.{Shares}
use Rattle.worksheet.specs.Prog.{◌>>=◌, entry}
use Rattle.worksheet.specs.Uses.{Uses, ret_u, enter_u, uses_bind}
use Rattle.worksheet.specs.MaskedAndLaws.{uses-masked_and}
use Rattle.worksheet.specs.Gates.{masked_not, masked_xor, masked_or}
use Rattle.worksheet.specs.EntryCounts.{xor_entries, or_entries}

pub uses-masked_not : (w : ℕ) (u : Shares) → Uses 1 0 0 (masked_not w u)
unfolding masked_not entry ◌>>=◌
uses-masked_not w u = enter_u ret_u

pub uses-masked_xor : (u v : Shares) → Uses xor_entries 0 0 (masked_xor u v)
unfolding masked_xor entry ◌>>=◌
uses-masked_xor u v = enter_u (enter_u ret_u)

pub uses-masked_or : (w : ℕ) (u v : Shares) → Uses or_entries 1 0 (masked_or w u v)
unfolding masked_or
uses-masked_or w u v =
    uses_bind (uses-masked_not w u) (λ a.
    uses_bind (uses-masked_not w v) (λ b.
    uses_bind (uses-masked_and w a b) (uses-masked_not w)))
