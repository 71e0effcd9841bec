-- Keccak-p[1600, 24] on two shares of a state, every result entered (document 01, The gadgets: Hash), and how many
-- mask words it draws.
use Rattle.std.specs.Prelude.{List, ℕ, ◌*◌, get_or, set}
use Rattle.words.specs.Word.{xor}
use Rattle.keccak_constants.specs.RoundConstants.{constant}
use Rattle.keccak.specs.KeccakP.{along, theta, rho, pi}
use Rattle.worksheet.specs.Shares.{Shares}
use Rattle.worksheet.specs.Prog.{Prog, ret, ◌>>=◌, entry, loop, times}
use Rattle.worksheet.specs.Sharing.{none}
use Rattle.worksheet.specs.SharedList.{SharedList, shared_list, shared_at, unzip}
use Rattle.worksheet.specs.MaskedAnd.{masked_and}
use Rattle.worksheet.specs.Gates.{masked_not, masked_xor}

-- theta, rho and pi on one share alone: the outcome is entered, lane by lane
unfoldable pub pass : List ℕ → Prog (List ℕ)
pass l = times 25 (λ i. entry (get_or (pi (rho (theta l))) i 0))

-- chi's lane: w xor (the complement of u, and v)
unfoldable pub chi_lane : Shares → Shares → Shares → Prog Shares
chi_lane w u v = do
  n ← masked_not 64 u
  z ← masked_and 64 n v
  masked_xor w z

-- chi in lane order
unfoldable pub masked_chi : SharedList → Prog (List Shares)
masked_chi s = times 25 (λ i. chi_lane (shared_at s i) (shared_at s (along 1 i)) (shared_at s (along 2 i)))

-- a round; the constant goes into share 0
unfoldable pub masked_round : ℕ → SharedList → Prog SharedList
masked_round i s = do
  a ← pass s.s0
  b ← pass s.s1
  c ← masked_chi (shared_list a b)
  k ← entry (xor (get_or c 0 none).s0 (constant i))
  ret (let t = unzip 25 (λ j. get_or c j none) in shared_list (set t.s0 0 k) t.s1)

unfoldable pub masked_keccak_p : SharedList → Prog SharedList
masked_keccak_p s = loop 24 masked_round s

-- ---- counts: a round draws a word for each lane

abbrev pub round_words : ℕ
round_words = 25

abbrev pub keccak_p_words : ℕ
keccak_p_words = 24 * round_words
