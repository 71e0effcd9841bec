-- How many entries the gates make.
use Rattle.std.specs.Prelude.{ℕ, ◌+◌}

abbrev pub and_entries : ℕ
and_entries = 8

abbrev pub xor_entries : ℕ
xor_entries = 2

-- And's and three complements
abbrev pub or_entries : ℕ
or_entries = and_entries + 3
