-- What the functions of the masked sponge do by themselves: what goes in with a block, and what comes out.
use Rattle.std.specs.Prelude.{List, ◌++◌, ℕ, ◌+◌, ◌-◌, ◌/◌, get_or, take, drop}
use Rattle.words.specs.Tab.{tab}
use Rattle.worksheet.specs.Shares.{Shares}
use Rattle.worksheet.specs.Prog.{Prog, ret, ◌>>=◌}
use Rattle.worksheet.specs.Sharing.{shares}
use Rattle.worksheet.specs.SharedList.{SharedList}
use Rattle.masked_keccak.specs.MaskedKeccak.{masked_keccak_p}
use Rattle.fips202.specs.Sponge.{lane_of}
use Rattle.masked_sponge.specs.MaskedSponge.{mix_lanes, masked_squeeze}
use Rattle.masked_sponge.specs.MaskedBytes.{shared_bytes}

-- lane j of the two strings p0 and p1
abbrev pub shared_lane : List ℕ → List ℕ → ℕ → Shares
shared_lane p0 p1 j = shares (lane_of p0 j) (lane_of p1 j)

-- n lanes of a block, and the permutation
abbrev pub take_in : ℕ → (ℕ → Shares) → SharedList → Prog SharedList
take_in n b s = mix_lanes n b s >>= masked_keccak_p

-- d bytes of output from the state s; the last word may give fewer than eight
unfoldable pub squeeze_bytes : ℕ → ℕ → SharedList → Prog SharedList
squeeze_bytes lanes d s = do
  z ← masked_squeeze lanes ((d + 7) / 8) s
  ret (shared_bytes d z)

-- ---- one share of the output

-- lane i of a state
abbrev pub lane : List ℕ → ℕ → ℕ
lane s i = get_or s i 0

-- out, its elements from a to e replaced by the first that read gives of the state s
abbrev pub given : {A : Type 0} → (List ℕ → ℕ → A) → List ℕ → ℕ → ℕ → List A → List A
given read s a e out = take a out ++ (tab (e - a) (read s) ++ drop (e - a) (drop a out))
