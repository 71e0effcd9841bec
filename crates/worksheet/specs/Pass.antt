-- The outcome of passes that get one share alone, entered.
use Rattle.std.specs.Prelude.{ℕ, List, get_or}
use Rattle.worksheet.specs.Prog.{Prog, ret, ◌>>=◌, entry, times}
use Rattle.worksheet.specs.SharedList.{SharedList, shared_list}

-- n values, one entry each
abbrev pub entries : ℕ → (ℕ → ℕ) → Prog (List ℕ)
entries n f = times n (λ i. entry (f i))

-- the outcome of a pass on each share: its n values are entered, share 0 then share 1
unfoldable pub enter_both : ℕ → List ℕ → List ℕ → Prog SharedList
enter_both n f g = do
  a ← entries n (λ i. get_or f i 0)
  b ← entries n (λ i. get_or g i 0)
  ret (shared_list a b)
