-- How many entries Keccak-p on two shares makes.
use Rattle.std.specs.Prelude.{ℕ, ◌+◌, ◌*◌}
use Rattle.worksheet.specs.EntryCounts.{and_entries, xor_entries}

-- chi's lane: the complement, And and the exclusive or
abbrev pub chi_lane_entries : ℕ
chi_lane_entries = 1 + and_entries + xor_entries

-- a round: the outcome of either pass, chi's 25 lanes, the constant
abbrev pub round_entries : ℕ
round_entries = 25 + 25 + 25 * chi_lane_entries + 1

abbrev pub keccak_p_entries : ℕ
keccak_p_entries = 24 * round_entries
