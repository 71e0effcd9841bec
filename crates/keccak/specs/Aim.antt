-- Lanes that theta, rho and pi take to given words at the two lanes that chi reads beside its own.
use Rattle.std.specs.Prelude.{◌≡◌, refl, Bool, true, false, cond, ◌||◌, ℕ, ◌+◌, ◌-◌, ◌*◌, ◌%◌, ◌<◌, T, eqb}
use Rattle.std.proofs.Common.{ap, ◌∙◌, arith}
use Rattle.std.proofs.Math.Path.{ap₂}
use Rattle.std.proofs.Math.Bool.{not, xor as differs}
use Rattle.words.specs.Word.{xor, rotl}
use Rattle.words.specs.Bits.{Bits}
use Rattle.words.specs.WordLaws.{xor-bits, zero_bits, xor_same, xor_zero, zero_xor}
use Rattle.words.specs.Rotation.{rotl-bits, rotl-rotl, rotl_zero}
use Rattle.words.specs.Table.{every}
use Rattle.words.specs.TableLaws.{every_at}
use Rattle.keccak.specs.KeccakP.{along}
use Rattle.keccak.specs.LinearPass.{pass_at, LaneBits, source, turn, turn_le, sum5, pass_even, pass_xor}

-- lane k is the source of lane l, or the next lane of that column
abbrev aims : ℕ → ℕ → Bool
aims l k = eqb k (source l) || eqb k ((source l + 5) % 25)

-- two equal lanes of one column, so that theta leaves all lanes as they are, and a comes to lane l
aim_at : ℕ → ℕ → ℕ → ℕ
aim_at l a k = cond (aims l k) (rotl 64 a (64 - turn l)) 0

aim_bits : (l : ℕ) {a : ℕ} → Bits 64 a → LaneBits (aim_at l a)
unfolding aim_at
aim_bits l {a} w = record { at = λ k h. go (aims l k) }
  where
    go : (b : Bool) → Bits 64 (cond b (rotl 64 a (64 - turn l)) 0)
    go true = rotl-bits 64 a (64 - turn l) (omega arith) w
    go false = zero_bits

-- ---- its columns are even

cond_true : (b : Bool) (t : ℕ) → T b → cond b t 0 ≡ t
cond_true true t h = refl
cond_true false t h = absurd h

cond_false : (b : Bool) (t : ℕ) → T (not b) → cond b t 0 ≡ 0
cond_false true t h = absurd h
cond_false false t h = refl

cond-xor : (t : ℕ) (a b : Bool) → xor (cond a t 0) (cond b t 0) ≡ cond (differs a b) t 0
unfolding differs
cond-xor t true true = xor_same t
cond-xor t true false = xor_zero t
cond-xor t false true = zero_xor t
cond-xor t false false = xor_zero 0

-- an odd number of the five hold
abbrev odd5 : (ℕ → Bool) → Bool
odd5 f = differs (differs (differs (differs (f 0) (f 1)) (f 2)) (f 3)) (f 4)

sum5-cond : (t : ℕ) (f : ℕ → Bool) → sum5 (λ y. cond (f y) t 0) ≡ cond (odd5 f) t 0
sum5-cond t f =
    ap (λ (v : ℕ). xor (xor (xor v (cond (f 2) t 0)) (cond (f 3) t 0)) (cond (f 4) t 0)) (cond-xor t (f 0) (f 1))
    ∙ ap (λ (v : ℕ). xor (xor v (cond (f 3) t 0)) (cond (f 4) t 0)) (cond-xor t _ (f 2))
    ∙ ap (λ (v : ℕ). xor v (cond (f 4) t 0)) (cond-xor t _ (f 3))
    ∙ cond-xor t _ (f 4)

aim_even : (l a x : ℕ) → l < 25 → x < 5 → sum5 (λ y. aim_at l a (x + 5 * y)) ≡ 0
unfolding aim_at source differs
aim_even l a x h g =
    let even : ℕ → ℕ → Bool = λ l x. not (odd5 (λ y. aims l (x + 5 * y))) in
    sum5-cond _ (λ y. aims l (x + 5 * y))
    ∙ cond_false (odd5 (λ y. aims l (x + 5 * y))) _
    (every_at 5 (even l) (every_at 25 (λ l. every 5 (even l)) tt l h) x g)

-- ---- what comes to lane l, and to a lane that is not aimed at

aim_pass : (l a i : ℕ) → l < 25 → i < 25 → pass_at (aim_at l a) i ≡ rotl 64 (aim_at l a (source i)) (turn i)
aim_pass l a i h g = pass_even (aim_at l a) (λ x k. aim_even l a x h k) i g

aim_on : (l : ℕ) {a : ℕ} → l < 25 → Bits 64 a → pass_at (aim_at l a) l ≡ a
unfolding aim_at source
aim_on l {a} h w =
    aim_pass l a l h h
    ∙ ap (λ (v : ℕ). rotl 64 v (turn l)) (cond_true (aims l (source l)) _ (every_at 25 (λ l. aims l (source l)) tt l h))
    ∙ rotl-rotl (turn l) (turn_le l h) w

aim_off : (l m a : ℕ) → l < 25 → m < 25 → T (not (aims l (source m))) → pass_at (aim_at l a) m ≡ 0
unfolding aim_at
aim_off l m a h g n =
    aim_pass l a m h g
    ∙ ap (λ (v : ℕ). rotl 64 v (turn m)) (cond_false (aims l (source m)) _ n)
    ∙ rotl_zero (turn m) (turn_le m g)

-- ---- both lanes at once

-- a comes to the next lane after lane i, b to the one after that
pub aimed : ℕ → ℕ → ℕ → ℕ → ℕ
aimed i a b k = xor (aim_at (along 1 i) a k) (aim_at (along 2 i) b k)

module _ (i : ℕ) {a b : ℕ} (h : i < 25) (v : Bits 64 a) (w : Bits 64 b) where
  pub aimed_bits : LaneBits (aimed i a b)
  unfolding aimed
  aimed_bits = record { at = λ k g. xor-bits ((aim_bits (along 1 i) v).at k g) ((aim_bits (along 2 i) w).at k g) }

  pub aimed-1 : pass_at (aimed i a b) (along 1 i) ≡ a
  unfolding aimed source
  aimed-1 =
      pass_xor (aim_bits (along 1 i) v) (aim_bits (along 2 i) w) (along 1 i) (omega arith)
      ∙ ap₂ xor (aim_on (along 1 i) (omega arith) v)
      (aim_off (along 2 i) (along 1 i) b (omega arith) (omega arith)
      (every_at 25 (λ i. not (aims (along 2 i) (source (along 1 i)))) tt i h))
      ∙ xor_zero a

  pub aimed-2 : pass_at (aimed i a b) (along 2 i) ≡ b
  unfolding aimed source
  aimed-2 =
      pass_xor (aim_bits (along 1 i) v) (aim_bits (along 2 i) w) (along 2 i) (omega arith)
      ∙ ap₂ xor
      (aim_off (along 1 i) (along 2 i) a (omega arith) (omega arith)
      (every_at 25 (λ i. not (aims (along 1 i) (source (along 2 i)))) tt i h))
      (aim_on (along 2 i) (omega arith) w)
      ∙ zero_xor b
