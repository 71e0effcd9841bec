-- The sponge on two shares (document 01, The gadgets: Hash), general in rate, suffix and lengths.
use Rattle.std.specs.Prelude.{cond, List, ℕ, ◌+◌, ◌-◌, ◌*◌, ◌/◌, ◌%◌, ltb, get_or, length, take, drop}
use Rattle.worksheet.specs.Shares.{Shares}
use Rattle.worksheet.specs.Prog.{Prog, word, ret, ◌>>=◌, mask, loop, times, chain}
use Rattle.worksheet.specs.Sharing.{shares, none}
use Rattle.worksheet.specs.SharedList.{SharedList, shared_list, shared_at, unzip}
use Rattle.worksheet.specs.Gates.{masked_xor}
use Rattle.masked_keccak.specs.MaskedKeccak.{masked_keccak_p, keccak_p_words}
use Rattle.fips202.specs.Sponge.{padded, lane_of}

-- all 25 lanes of both shares of the zero state take one mask each, the same in both; nothing is entered
unfoldable pub start : Prog SharedList
start = do
  m ← times 25 (λ i. mask word)
  ret (shared_list m m)

-- the first n lanes of the state take the lanes b of a block, and are entered also where nothing is added
unfoldable pub mix_lanes : ℕ → (ℕ → Shares) → SharedList → Prog SharedList
mix_lanes n b s = do
  z ← times n (λ j. masked_xor (shared_at s j) (b j))
  ret (unzip 25 (λ j. cond (ltb j n) (get_or z j none) (shared_at s j)))

-- n blocks, each of so many lanes and followed by the permutation; b i j is lane j of block i
unfoldable pub masked_blocks : ℕ → ℕ → (ℕ → ℕ → Shares) → Prog SharedList
masked_blocks lanes n b = start >>= loop n (λ i s. mix_lanes lanes (b i) s >>= masked_keccak_p)

-- lane j of block i of the two strings p0 and p1; past its end a string is zero
abbrev pub shared_block : ℕ → List ℕ → List ℕ → ℕ → ℕ → Shares
shared_block rate p0 p1 i j =
    shares (lane_of (take rate (drop (i * rate) p0)) j) (lane_of (take rate (drop (i * rate) p1)) j)

-- the blocks of an input of len bytes with its padding
abbrev pub input_blocks : ℕ → ℕ → ℕ
input_blocks rate len = len / rate + 1

-- in0 and in1 are the input's two shares, of one length; the padding goes into share 0
unfoldable pub masked_absorb : ℕ → ℕ → List ℕ → List ℕ → Prog SharedList
masked_absorb rate suffix in0 in1 =
    masked_blocks (rate / 8) (input_blocks rate (length in0)) (shared_block rate (padded rate suffix in0) in1)

-- the blocks behind the first of an output of n, words or bytes, of which each block has so many
abbrev pub further_blocks : ℕ → ℕ → ℕ
further_blocks per n = (n - 1) / per

-- n words of output, of which each state gives the first lanes; further states by further permutations
unfoldable pub masked_squeeze : ℕ → ℕ → SharedList → Prog SharedList
masked_squeeze lanes n s = do
  t ← chain (further_blocks lanes n) (λ _. masked_keccak_p) s
  ret (unzip n (λ i. shared_at (get_or t (i / lanes) s) (i % lanes)))

unfoldable pub masked_sponge : ℕ → ℕ → List ℕ → List ℕ → ℕ → Prog SharedList
masked_sponge rate suffix in0 in1 n = masked_absorb rate suffix in0 in1 >>= masked_squeeze (rate / 8) n

-- ---- counts

-- the permutations that FIPS 202 runs for an input of len bytes and an output of d
abbrev pub permutations : ℕ → ℕ → ℕ → ℕ
permutations rate len d = input_blocks rate len + further_blocks rate d

-- the mask words of a hash with n permutations: the start's and theirs
abbrev pub hash_mask_words : ℕ → ℕ
hash_mask_words n = 25 + keccak_p_words * n

-- the mask words of the sponge for an input of len bytes and n words of output
abbrev pub sponge_mask_words : ℕ → ℕ → ℕ → ℕ
sponge_mask_words rate len n = hash_mask_words (input_blocks rate len + further_blocks (rate / 8) n)
