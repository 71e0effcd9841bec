-- How many entries comparison and selection make.
use Rattle.std.specs.Prelude.{ℕ, ◌+◌, ◌*◌}
use Rattle.worksheet.specs.EntryCounts.{or_entries, and_entries, xor_entries}

-- of n + 1 words: those of n + 6 Ors, and the complement
unfoldable pub all_zero_entries : ℕ → ℕ
all_zero_entries n = n * or_entries + (6 * or_entries + 1)

-- of a word
abbrev pub select_entries : ℕ
select_entries = xor_entries + and_entries + xor_entries
