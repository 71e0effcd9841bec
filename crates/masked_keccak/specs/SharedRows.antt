-- The code's form of two shares of a state, and of chi on them, five rows of five lanes. Nothing here need be believed:
-- the code's `chi` promises MaskedKeccak's.
use Rattle.std.specs.Prelude.{◌≡◌, refl, List, [], ◌∷◌, ◌++◌, ℕ, ◌+◌, ◌%◌}
use Rattle.keccak.specs.Rows.{row_of}
use Rattle.keccak.specs.declared.row.Row.{Row}
use Rattle.keccak.specs.declared.state.State.{State}
use Rattle.worksheet.specs.Shares.{Shares}
use Rattle.worksheet.specs.Prog.{Prog, ret, ◌>>=◌, mask, mask_low, entry, loop, times}
use Rattle.worksheet.specs.SharedList.{SharedList, shared_list, shared_at}
use Rattle.worksheet.specs.MaskedAnd.{masked_and}
use Rattle.worksheet.specs.Gates.{masked_not, masked_xor}
use Rattle.masked_keccak.specs.MaskedKeccak.{chi_lane, masked_chi}

abbrev pub shared_state : State → State → SharedList
shared_state a b = shared_list a.lanes b.lanes

-- a row of each share
abbrev pub shared_row : Row → Row → SharedList
shared_row x y = shared_list (x.a ∷ x.b ∷ x.c ∷ x.d ∷ x.e ∷ []) (y.a ∷ y.b ∷ y.c ∷ y.d ∷ y.e ∷ [])

-- the row of lane i and its four successors
abbrev pub shared_row_of : SharedList → ℕ → SharedList
shared_row_of s i = shared_row (row_of s.s0 i) (row_of s.s1 i)

unfoldable pub masked_chi_row : SharedList → Prog (List Shares)
masked_chi_row s = times 5 (λ j. chi_lane (shared_at s j) (shared_at s ((j + 1) % 5)) (shared_at s ((j + 2) % 5)))

unfoldable pub masked_chi_rows : SharedList → Prog (List Shares)
masked_chi_rows s = do
  p ← masked_chi_row (shared_row_of s 0)
  q ← masked_chi_row (shared_row_of s 5)
  r ← masked_chi_row (shared_row_of s 10)
  t ← masked_chi_row (shared_row_of s 15)
  u ← masked_chi_row (shared_row_of s 20)
  ret (p ++ (q ++ (r ++ (t ++ u))))

pub masked_chi_rows_lem : (s : SharedList) → masked_chi s ≡ masked_chi_rows s
unfolding masked_chi masked_chi_rows masked_chi_row chi_lane times loop ◌>>=◌ mask mask_low entry masked_not masked_and
    masked_xor
masked_chi_rows_lem s = refl
