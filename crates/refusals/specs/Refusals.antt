-- Document 01, Refusals by place, as asks 1, 2 and 5 of document 02 change it: answers, their numbers, rows, and the
-- condition of row 1.
use Rattle.std.specs.Prelude.{Bool, true, cond, ◌&&◌, List, [], ◌∷◌, ℕ, eqb, length, Result, Ok, Err, ⊤}
use Rattle.refusals.specs.declared.Refusal.{Refusal}
use Rattle.refusals.specs.declared.Refusal.TheVariants.{WrongLength, PublicKeyRange, WrongHash}
use Rattle.refusals.specs.declared.Refusal.TheVariants.{MaskRange, ShareRange, ShortStream}
use Rattle.refusals.specs.declared.Refusal.TheVariants.{NoSuchStep, NoSuchRank, LimitRange, LimitReached}

-- a call is carried out, or refused
abbrev pub Answer : Type 0
Answer = Result ⊤ Refusal

abbrev pub Done : Answer
Done = Ok tt

abbrev pub refusal_number : Refusal → ℕ
refusal_number WrongLength = 1
refusal_number PublicKeyRange = 2
refusal_number WrongHash = 3
refusal_number MaskRange = 5
refusal_number ShareRange = 6
refusal_number ShortStream = 7
refusal_number NoSuchStep = 8
refusal_number NoSuchRank = 9
refusal_number LimitRange = 10
refusal_number LimitReached = 11

-- the number of a refusal; 0 where the call is carried out
abbrev pub number : Answer → ℕ
number (Ok _) = 0
number (Err r) = refusal_number r

-- a row of the table: its condition, and its refusal
pub record Row : Type 0 where
  pub applies : Bool
  pub refusal : Refusal

abbrev pub row : Bool → Refusal → Row
row b r = record { applies = b; refusal = r }

-- the rows are tried from top to bottom
unfoldable pub answer : List Row → Answer
answer [] = Done
answer (r ∷ rs) = cond r.applies (Err r.refusal) (answer rs)

-- what a lent buffer holds after a call whose answer has the number n: the result where the call is carried out, else
-- what it held before
abbrev pub after : {A : Type 0} → ℕ → A → A → A
after n new old = cond (eqb n 0) new old

-- ---- row 1

-- a lent buffer and the length it must have
pub record Lent : Type 0 where
  pub list : List ℕ
  pub size : ℕ

abbrev pub lent : List ℕ → ℕ → Lent
lent l n = record { list = l; size = n }

unfoldable pub sized : List Lent → Bool
sized [] = true
sized (b ∷ bs) = eqb (length b.list) b.size && sized bs
