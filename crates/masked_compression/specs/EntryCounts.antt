-- How many entries masked compression makes.
use Rattle.std.specs.Prelude.{ℕ, ◌+◌, ◌*◌}
use Rattle.masked_adder.specs.EntryCounts.{adder_entries}

-- 64 coefficients to depth d: one for a fixed point, and the adder's
unfoldable pub compress_entries : ℕ → ℕ
compress_entries d = 64 * 1 + (64 * 1 + adder_entries (d + 13))
