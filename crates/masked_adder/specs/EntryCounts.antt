-- How many entries the adder makes.
use Rattle.std.specs.Prelude.{ℕ, ◌+◌, ◌-◌, ◌*◌}
use Rattle.worksheet.specs.EntryCounts.{and_entries, xor_entries}

-- a carry
abbrev pub carry_entries : ℕ
carry_entries = xor_entries + xor_entries + and_entries + xor_entries

-- n planes: one for a plane of a or b, a carry's, two for a sum plane
unfoldable pub adder_entries : ℕ → ℕ
adder_entries n = n * 1 + (n * 1 + ((n - 1) * carry_entries + n * 2))
