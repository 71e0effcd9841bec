-- How many entries bit to coefficient and the sampler make.
use Rattle.std.specs.Prelude.{ℕ, ◌+◌, ◌-◌, ◌*◌}

abbrev pub bit_to_coeff_entries : ℕ
bit_to_coeff_entries = 4

-- of width eta: those of the conversions, and one for a sum
unfoldable pub sampler_entries : ℕ → ℕ
sampler_entries eta = 2 * eta * bit_to_coeff_entries + ((2 * eta - 1) * 1 + (2 * eta - 1) * 1)
