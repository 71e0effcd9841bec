-- Numbers of a bits are made numbers of b bits: what a loop keeps that loads one or stores one at each turn.
use mathlib.Core.Path.{◌≡◌, refl, sym, ap, ap₂, ◌∙◌}
use mathlib.Core.List.{List, [], ◌∷◌, ◌++◌, append_assoc, append-nil}
use Prim.Native.Nat.{ℕ, ◌+◌, ◌*◌, ◌-◌, ◌/◌, ◌%◌, ◌^◌, ◌<◌, ◌≤◌}
use native.Mathlib.Nat.{mod-lt, mul-le-mul_left, mul-le-mul_right, le_of_eq}
use native.Mathlib.Nat.{lt_of_mul-lt-mul_left, eq_of_mul-eq-mul_left}
use native.Mathlib.Numerals.{add-one}
use native.Mathlib.Omega.{arith}
use lib.Pow.{pow_pos, pow-add, shr_lt}
use lib.ListN.{length, take, get_or, set}
use lib.Seq.{take-suc, take-suc-set, take_all}
use Rattle.words.specs.Bounded.{Below}
use Rattle.words.specs.BoundedLaws.{below_nil, below_cons, below_append}
use Rattle.words.specs.Numeral.{digits}
use Rattle.words.specs.NumeralLaws.{digits_append, digits_split}
use Rattle.codec.specs.Bytes.{bits_of, numbers_of}
use Rattle.codec.specs.BytesLaws.{bits_of_append, numbers_of-bits_of}

bits_of_one : (d x : ℕ) → bits_of d (x ∷ []) ≡ digits 2 d x
unfolding bits_of
bits_of_one d x = append-nil (digits 2 d x)

-- i of s are loaded, k of t are stored, and n bits wait in acc
pub record Repacked (a b : ℕ) (s t : List ℕ) (i k n acc : ℕ) : Type 0 where
  pub room : acc < 2 ^ n
  pub count : a * i ≡ b * k + n
  pub below : Below (2 ^ b) (take k t)
  pub same : bits_of a (take i s) ≡ bits_of b (take k t) ++ digits 2 n acc

-- whatever is stored: what was so with i₀ loaded and n₀ bits in acc₀ is so with i loaded and n bits in acc
pub record Loaded (a b : ℕ) (s : List ℕ) (i₀ n₀ acc₀ i n acc : ℕ) : Type 0 where
  pub keeps : (t : List ℕ) (k : ℕ) → Repacked a b s t i₀ k n₀ acc₀ → Repacked a b s t i k n acc

pub repacked_start : (a b : ℕ) (s t : List ℕ) → Repacked a b s t 0 0 0 0
unfolding bits_of digits
repacked_start a b s t = record { room = omega arith; count = omega arith; below = below_nil (pow_pos b); same = refl }

pub repacked_load : {a b i k n acc : ℕ} {s t : List ℕ} → Repacked a b s t i k n acc → i < length s
    → get_or s i 0 < 2 ^ a
    → Repacked a b s t (i + 1) k (n + a) (acc + get_or s i 0 * 2 ^ n)
repacked_load {a} {b} {i} {k} {n} {acc} {s} {t} r h l =
    let x = get_or s i 0 in
    record {
      room = omega (arith, r.room, pow-add 2 n a, mul-le-mul_right (2 ^ n) l);
      count = omega (arith, r.count);
      below = r.below;
      same = rw (add-one, take-suc s i 0)
          (bits_of_append a (take i s) (x ∷ [])
          ∙ ap₂ (λ (l m : List ℕ). l ++ m) r.same (bits_of_one a x)
          ∙ append_assoc (bits_of b (take k t)) (digits 2 n acc) (digits 2 a x)
          ∙ ap (λ (l : List ℕ). bits_of b (take k t) ++ l) (sym (digits_append 2 n a acc x (omega arith) r.room)));
    }

pub loaded_turn : {a b i₀ n₀ acc₀ i n acc : ℕ} {s : List ℕ} → Loaded a b s i₀ n₀ acc₀ i n acc → i < length s
    → get_or s i 0 < 2 ^ a
    → Loaded a b s i₀ n₀ acc₀ (i + 1) (n + a) (acc + get_or s i 0 * 2 ^ n)
loaded_turn h g l = record { keeps = λ t k r. repacked_load (h.keeps t k r) g l }

pub repacked_store : {a b i k n acc : ℕ} {s t : List ℕ} → Repacked a b s t i k n acc → b ≤ n → k < length t
    → Repacked a b s (set t k (acc % 2 ^ b)) i (k + 1) (n - b) (acc / 2 ^ b)
repacked_store {a} {b} {i} {k} {n} {acc} {s} {t} r h l =
    let v = acc % 2 ^ b in
    let e : n - b + b ≡ n = omega arith in
    let e' : b + (n - b) ≡ n = omega arith in
    record {
      room = shr_lt (n - b) b (rw e r.room);
      count = omega (arith, r.count);
      below = rw (add-one, take-suc-set t k v l)
          (below_append (take k t) r.below (below_cons (mod-lt acc (pow_pos b)) (below_nil (pow_pos b))));
      same = rw (add-one, take-suc-set t k v l)
          (r.same
          ∙ ap (λ (l : List ℕ). bits_of b (take k t) ++ l)
          (ap (λ (m : ℕ). digits 2 m acc) (sym e') ∙ digits_split 2 b (n - b) acc (omega arith))
          ∙ sym (append_assoc (bits_of b (take k t)) (digits 2 b v) (digits 2 (n - b) (acc / 2 ^ b)))
          ∙ ap (λ (l : List ℕ). l ++ digits 2 (n - b) (acc / 2 ^ b))
          (ap (λ (l : List ℕ). bits_of b (take k t) ++ l) (sym (bits_of_one b v))
          ∙ sym (bits_of_append b (take k t) (v ∷ []))));
    }

module _ {a b i k n acc : ℕ} {s t : List ℕ} (r : Repacked a b s t i k n acc) (whole : b * length t ≡ a * length s) where
  repacked_more : n < b → k < length t → i < length s
  repacked_more h l = lt_of_mul-lt-mul_left a (omega (arith, r.count, mul-le-mul_left b l))

  pub repacked_end : 0 < a → i ≤ length s → k ≡ length t → t ≡ numbers_of b (length t) (bits_of a s)
  unfolding digits
  repacked_end h g e =
      let none : n ≡ 0 = omega (arith, r.count, mul-le-mul_left a g, ap (λ (m : ℕ). b * m) e) in
      let all : i ≡ length s =
      eq_of_mul-eq-mul_left a h i (length s) (omega (arith, r.count, ap (λ (m : ℕ). b * m) e)) in
      let t-all = take_all k t (le_of_eq (sym e)) in
      sym
      (ap (numbers_of b (length t))
      (ap (bits_of a) (sym (take_all i s (le_of_eq (sym all)))) ∙ r.same
      ∙ ap₂ (λ (l m : List ℕ). bits_of b l ++ m) t-all (ap (λ (m : ℕ). digits 2 m acc) none) ∙ append-nil (bits_of b t))
      ∙ numbers_of-bits_of b t (rw t-all at r.below))

-- where a store has to wait, there is one more to load
pub loaded_more : {a b i₀ n₀ acc₀ i n acc k : ℕ} {s t : List ℕ} → Loaded a b s i₀ n₀ acc₀ i n acc
    → Repacked a b s t i₀ k n₀ acc₀ → b * length t ≡ a * length s → n < b → k < length t
    → i < length s
loaded_more h r whole = repacked_more (h.keeps _ _ r) whole
