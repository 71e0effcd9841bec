-- Two shares of a list of numbers: of a state's lanes, a string's bytes or a polynomial's coefficients.
use Rattle.std.specs.Prelude.{List, ℕ, length, get_or}
use Rattle.words.specs.Tab.{tab}
use Rattle.worksheet.specs.declared.Shared.{Shared}
use Rattle.worksheet.specs.Shares.{Shares}
use Rattle.worksheet.specs.Sharing.{shares, joined}

abbrev pub SharedList : Type 0
SharedList = Shared (List ℕ)

abbrev pub shared_list : List ℕ → List ℕ → SharedList
shared_list a b = record { s0 = a; s1 = b }

-- the two shares of element i
abbrev pub shared_at : SharedList → ℕ → Shares
shared_at s i = shares (get_or s.s0 i 0) (get_or s.s1 i 0)

-- n sharings as two lists
unfoldable pub unzip : ℕ → (ℕ → Shares) → SharedList
unzip n f = shared_list (tab n (λ i. (f i).s0)) (tab n (λ i. (f i).s1))

-- the list of words that two shares of it stand for
unfoldable pub joined_list : SharedList → List ℕ
joined_list s = tab (length s.s0) (λ i. joined (shared_at s i))
