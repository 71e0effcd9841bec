-- How the code keeps what the stages hand on: parts of one size, one after the other, in a slice for each share.
use Rattle.std.specs.Prelude.{List, ℕ}
use Rattle.words.specs.Tab.{tab}
use Rattle.worksheet.specs.SharedList.{SharedList, shared_list}
use Rattle.vectors.specs.Vector.{parts}

-- part i of n elements of both shares
abbrev pub part_of : ℕ → SharedList → ℕ → SharedList
part_of n z i = shared_list (parts n z.s0 i) (parts n z.s1 i)

-- what f makes of the first k parts of n elements
unfoldable pub parts_by : {A : Type 0} → (SharedList → A) → ℕ → ℕ → SharedList → List A
parts_by f n k z = tab k (λ i. f (part_of n z i))

-- k polynomials
abbrev pub polynomials : ℕ → SharedList → List SharedList
polynomials k z = parts_by (λ t. t) 256 k z
