-- The adder on bit planes (document 01, The gadgets: Adder). A number is given by its planes, the lowest first.
use Rattle.std.specs.Prelude.{List, ℕ, ◌-◌, ◌*◌, get_or}
use Rattle.words.specs.Word.{xor}
use Rattle.worksheet.specs.Shares.{Shares}
use Rattle.worksheet.specs.Prog.{Prog, word, ret, ◌>>=◌, mask, entry, times, chain}
use Rattle.worksheet.specs.Sharing.{shares, none}
use Rattle.worksheet.specs.MaskedAnd.{masked_and}
use Rattle.worksheet.specs.Gates.{masked_xor}

-- a plane takes the shares (x xor r, r)
unfoldable pub mask_plane : ℕ → Prog Shares
mask_plane x = do
  r ← mask word
  y ← entry (xor x r)
  ret (shares y r)

-- the next carry: a xor And(a xor b, a xor carry)
unfoldable pub carry_step : Shares → Shares → Shares → Prog Shares
carry_step a b c = do
  x ← masked_xor a b
  y ← masked_xor a c
  z ← masked_and 64 x y
  masked_xor a z

-- a xor b xor carry, one entry for each share
unfoldable pub sum_plane : Shares → Shares → Shares → Prog Shares
sum_plane a b c = do
  s0 ← entry (xor (xor a.s0 b.s0) c.s0)
  s1 ← entry (xor (xor a.s1 b.s1) c.s1)
  ret (shares s0 s1)

abbrev pub at : List Shares → ℕ → Shares
at l j = get_or l j none

abbrev pub mask_planes : ℕ → (ℕ → ℕ) → Prog (List Shares)
mask_planes n x = times n (λ j. mask_plane (x j))

-- the carries into the n planes; none comes out of the top plane
abbrev pub carries : ℕ → List Shares → List Shares → Prog (List Shares)
carries n a b = chain (n - 1) (λ j c. carry_step (at a j) (at b j) c) none

abbrev pub sum_planes : ℕ → List Shares → List Shares → List Shares → Prog (List Shares)
sum_planes n a b c = times n (λ j. sum_plane (at a j) (at b j) (at c j))

-- n planes of a, n planes of b, the carries and the n sum planes
unfoldable pub adder : ℕ → (ℕ → ℕ) → (ℕ → ℕ) → Prog (List Shares)
adder n x y = do
  a ← mask_planes n x
  b ← mask_planes n y
  c ← carries n a b
  sum_planes n a b c

-- its mask words: one for a plane of a or b, one for a carry
abbrev pub adder_words : ℕ → ℕ
adder_words n = 3 * n - 1
