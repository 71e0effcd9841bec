-- The sponge on two shares, its output in bytes.
use Rattle.std.specs.Prelude.{List, ℕ, ◌+◌, ◌/◌}
use Rattle.words.specs.Tab.{tab}
use Rattle.worksheet.specs.Prog.{Prog, ret, ◌>>=◌}
use Rattle.worksheet.specs.SharedList.{SharedList, shared_list}
use Rattle.fips202.specs.Sponge.{byte_of}
use Rattle.masked_sponge.specs.MaskedSponge.{masked_sponge}

-- the first d bytes of each share's words
abbrev pub shared_bytes : ℕ → SharedList → SharedList
shared_bytes d z = shared_list (tab d (byte_of z.s0)) (tab d (byte_of z.s1))

-- the sponge, its output in bytes
unfoldable pub masked_hash : ℕ → ℕ → List ℕ → List ℕ → ℕ → Prog SharedList
masked_hash rate suffix in0 in1 d = do
  z ← masked_sponge rate suffix in0 in1 ((d + 7) / 8)
  ret (shared_bytes d z)
