-- What a test of all numbers below n says, and tables.
use Rattle.std.specs.Prelude.{◌≡◌, refl, Bool, true, false, ◌&&◌, List, ℕ, zero, suc, ◌<◌, T, eqb, length, get_or}
use Rattle.std.proofs.Math.Decide.{dec_lt}
use Rattle.std.proofs.Common.{arith, eqb→eq}
use Rattle.words.specs.Tab.{tab}
use Rattle.words.specs.TabLaws.{tab_of}
use Rattle.words.specs.Table.{every}

left : (a b : Bool) → T (a && b) → T a
left true b h = tt
left false b h = h

right : (a b : Bool) → T (a && b) → T b
right true b h = h
right false b h = absurd h

pub every_at : (n : ℕ) (p : ℕ → Bool) → T (every n p) → (i : ℕ) → i < n → T (p i)
every_at zero p t i h = absurd (omega arith)
every_at (suc n) p t i h = go (dec_lt i n) (every_at n p (left (every n p) (p n) t) i)
  where
    go : Dec (i < n) → (i < n → T (p i)) → T (p i)
    go (yes g) r = r g
    go (no g) r = let e : i ≡ n = omega arith in rw e (right (every n p) (p n) t)

pub every_true : (n : ℕ) (p : ℕ → Bool) → ((i : ℕ) → i < n → p i ≡ true) → every n p ≡ true
every_true zero p h = refl
every_true (suc n) p h = rw (every_true n p (λ i l. h i (omega arith)), h n (omega arith))

-- entry k of the table passes the test f k
table_at : (f : ℕ → ℕ → Bool) (xs : List ℕ) → T (every (length xs) (λ k. f k (get_or xs k 0))) → (k : ℕ)
    → k < length xs → T (f k (get_or xs k 0))
table_at f xs t k h = every_at (length xs) (λ k. f k (get_or xs k 0)) t k h

-- a table of the values of f
pub table_tab : (f : ℕ → ℕ) (xs : List ℕ) → T (every (length xs) (λ k. eqb (get_or xs k 0) (f k)))
    → xs ≡ tab (length xs) f
table_tab f xs t =
    tab_of 0 xs (length xs) refl (λ k h. eqb→eq (get_or xs k 0) (f k) (table_at (λ k x. eqb x (f k)) xs t k h))
