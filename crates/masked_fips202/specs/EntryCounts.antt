-- How many entries the masked hashes make, for an input of len bytes and n words of output.
use Rattle.std.specs.Prelude.{ℕ}
use Rattle.masked_sponge.specs.EntryCounts.{sponge_entries}

unfoldable pub sha3_512_entries : ℕ → ℕ
sha3_512_entries len = sponge_entries 72 len 8

unfoldable pub shake256_entries : ℕ → ℕ → ℕ
shake256_entries len n = sponge_entries 136 len n
