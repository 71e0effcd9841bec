-- How many entries the masked sponge makes, for an input of len bytes and n words of output.
use Rattle.std.specs.Prelude.{ℕ, ◌+◌, ◌*◌, ◌/◌}
use Rattle.worksheet.specs.EntryCounts.{xor_entries}
use Rattle.masked_keccak.specs.EntryCounts.{keccak_p_entries}
use Rattle.masked_sponge.specs.MaskedSponge.{input_blocks, further_blocks}

-- n blocks of so many lanes
abbrev pub blocks_entries : ℕ → ℕ → ℕ
blocks_entries lanes n = n * (lanes * xor_entries + keccak_p_entries)

abbrev pub sponge_entries : ℕ → ℕ → ℕ → ℕ
sponge_entries rate len n =
    blocks_entries (rate / 8) (input_blocks rate len) + further_blocks (rate / 8) n * keccak_p_entries
