-- Folding of words to one bit, and selection (document 01, stages 8 and 10).
use Rattle.std.specs.Prelude.{List, ℕ, ◌+◌, ◌-◌, ◌*◌, ◌/◌, ◌^◌, get_or}
use Rattle.words.specs.Word.{xor, low}
use Rattle.worksheet.specs.Shares.{Shares}
use Rattle.worksheet.specs.Prog.{Prog, ret, ◌>>=◌, entry, loop, times}
use Rattle.worksheet.specs.Sharing.{shares, none}
use Rattle.worksheet.specs.SharedList.{SharedList, shared_at, unzip}
use Rattle.worksheet.specs.MaskedAnd.{masked_and}
use Rattle.worksheet.specs.Gates.{masked_not, masked_xor, masked_or}

-- n public words go into share 0, one entry each
unfoldable pub add_public : ℕ → (ℕ → ℕ) → (ℕ → Shares) → Prog (List Shares)
add_public n c w = times n (λ j. entry (xor (w j).s0 (c j)) >>= λ x. ret (shares x (w j).s1))

-- words 1 to n are folded into word 0 by Or
unfoldable pub fold_or : ℕ → (ℕ → Shares) → Prog Shares
fold_or n w = loop n (λ j acc. masked_or 64 acc (w (j + 1))) (w 0)

-- the low h bits Or the next h
unfoldable pub halve : ℕ → Shares → Prog Shares
halve h w = masked_or h (shares (low h w.s0) (low h w.s1)) (shares (w.s0 / 2 ^ h) (w.s1 / 2 ^ h))

-- a word of 2^n bits down to one: halves of 2^(n - 1), .., 2, 1 bits
unfoldable pub halves : ℕ → Shares → Prog Shares
halves n w = loop n (λ j. halve (2 ^ (n - 1 - j))) w

-- 1 where all n + 1 words are 0
unfoldable pub all_zero : ℕ → (ℕ → Shares) → Prog Shares
all_zero n w = do
  f ← fold_or n w
  b ← halves 6 f
  masked_not 1 b

-- its mask words: one for each of n + 6 Ors
abbrev pub all_zero_words : ℕ → ℕ
all_zero_words n = n + 6

-- 64 copies of a bit
unfoldable pub copies : Shares → Shares
copies b = shares (b.s0 * (2 ^ 64 - 1)) (b.s1 * (2 ^ 64 - 1))

-- x where the bit is 1, else y: y xor And(copies of the bit, x xor y)
unfoldable pub select : Shares → Shares → Shares → Prog Shares
select b x y = do
  d ← masked_xor x y
  z ← masked_and 64 (copies b) d
  masked_xor y z

-- n words, each by the same bit
unfoldable pub select_all : ℕ → Shares → SharedList → SharedList → Prog SharedList
select_all n b x y = do
  o ← times n (λ j. select b (shared_at x j) (shared_at y j))
  ret (unzip n (λ j. get_or o j none))

-- the mask words of one
abbrev pub select_words : ℕ
select_words = 1
