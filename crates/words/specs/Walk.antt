-- A loop that walks over 0, 1, .., n - 1 and stops where a test fails: what holds of all that it has passed.
--
-- How a proof cites it, where the loop compares a with b and returns false at the first difference:
--     the invariant    Walked (length a) (λ k. get_or a k 0 ≡ get_or b k 0) i
--     before the loop  walked_start
--     a turn           walked_turn INVARIANT (omega arith) TEST, as c.if-a-i.false
--     after the loop   walked_equal 0 INVARIANT (omega arith) LENGTHS says a ≡ b; where the test is another,
--                      walked-every
--     inside it        refuted or every-false says that the test of the whole is false
use Rattle.std.specs.Prelude.{◌≡◌, refl, Bool, true, false, ◌&&◌, List, ℕ, zero, suc, ◌+◌, ◌<◌, ◌≤◌, length, get_or}
use Rattle.std.proofs.Math.Decide.{dec_lt}
use Rattle.std.proofs.Common.{arith, below_more, ext_get_or}
use Rattle.words.specs.Table.{every}
use Rattle.words.specs.TableLaws.{every_true}

-- of n places the first i are passed, and P holds of each
pub record Walked (n : ℕ) (P : ℕ → Type 0) (i : ℕ) : Type 0 where
  pub within : i ≤ n
  pub passed : (k : ℕ) → k < i → P k

module _ {n : ℕ} {P : ℕ → Type 0} where
  pub walked_start : Walked n P 0
  walked_start = record { within = omega arith; passed = λ k h. absurd (omega arith) }

  pub walked_turn : {i : ℕ} → Walked n P i → i < n → P i → Walked n P (i + 1)
  walked_turn {i} w h p = record { within = omega arith; passed = below_more P i w.passed p }

  walked_end : {i : ℕ} → Walked n P i → n ≤ i → (k : ℕ) → k < n → P k
  walked_end w h k g = w.passed k (omega arith)

-- ---- what the whole walk says

-- two lists of one length, equal at each place
pub walked_equal : {A : Type 0} (d : A) {a b : List A} {i : ℕ} → Walked (length a) (λ k. get_or a k d ≡ get_or b k d) i
    → length a ≤ i → length a ≡ length b → a ≡ b
walked_equal d {a} {b} w h e = ext_get_or d a b e (walked_end w h)

-- a test that is passed everywhere
pub walked-every : {n : ℕ} {p : ℕ → Bool} {i : ℕ} → Walked n (λ k. p k ≡ true) i → n ≤ i → every n p ≡ true
walked-every {n} {p} w h = every_true n p (walked_end w h)

-- ---- where the walk stops

and_false : (b : Bool) → (b && false) ≡ false
and_false true = refl
and_false false = refl

-- a test that fails at one place
pub every-false : (n : ℕ) (p : ℕ → Bool) (i : ℕ) → i < n → p i ≡ false → every n p ≡ false
every-false zero p i h e = absurd (omega arith)
every-false (suc n) p i h e = go (dec_lt i n) (λ g. every-false n p i g e)
  where
    go : Dec (i < n) → (i < n → every n p ≡ false) → (every n p && p n) ≡ false
    go (yes g) r = rw (r g)
    go (no g) r = let w : i ≡ n = omega arith in rw (← w, e) (and_false (every i p))

-- a test that would say what isn't so
pub refuted : {P : Type 0} (b : Bool) → (b ≡ true → P) → (P → ⊥) → b ≡ false
refuted true f g = absurd (g (f refl))
refuted false f g = refl
