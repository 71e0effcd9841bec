-- Parts of a list: the n elements from a on, and k parts of n elements each.
use Rattle.std.specs.Prelude.{◌≡◌, refl, List, [], ◌∷◌, ◌++◌, ℕ, zero, suc, ◌+◌, ◌-◌, ◌*◌, ◌<◌, ◌≤◌, length, get_or}
use Rattle.std.specs.Prelude.{take, drop}
use Rattle.std.proofs.Common.{ap, ◌∙◌, le_trans, mul-suc, mul-le-mul_left, arith, length-take, length-drop}
use Rattle.std.proofs.Common.{length-take-le, take_all, take-take}
use Rattle.std.proofs.Math.ListN.{get_or-eq_default}
use Rattle.std.proofs.lemmas.List.{take-append-le, drop-append-le}

module _ {A : Type 0} where
  pub length_part : (a n : ℕ) (l : List A) → a + n ≤ length l → length (take n (drop a l)) ≡ n
  length_part a n l h = length-take-le n (drop a l) (omega (arith, length-drop a l))

  pub part_take : (a n m : ℕ) (l : List A) → a + n ≤ m → take n (drop a (take m l)) ≡ take n (drop a l)
  part_take zero n m l h = take-take n m l (omega arith)
  part_take (suc a) n zero l h = absurd (omega arith)
  part_take (suc a) n (suc m) [] h = refl
  part_take (suc a) n (suc m) (x ∷ l) h = part_take a n m l (omega arith)

  pub part_append : (a n : ℕ) (l m : List A) → a + n ≤ length l → take n (drop a (l ++ m)) ≡ take n (drop a l)
  part_append a n l m h =
      let g : a ≤ length l = omega arith in
      rw (drop-append-le a l m g) (take-append-le n (drop a l) m (omega (arith, length-drop a l)))

  -- all elements from a on
  pub part_rest : (a : ℕ) (l : List A) → take (length l - a) (drop a l) ≡ drop a l
  part_rest a l = take_all (length l - a) (drop a l) (omega (arith, length-drop a l))

  -- past the first n elements there are none
  pub get_or-take_past : (n : ℕ) (l : List A) (x : ℕ) (d : A) → n ≤ x → get_or (take n l) x d ≡ d
  get_or-take_past n l x d h = get_or-eq_default (take n l) d {n = x} (omega (arith, length-take n l))

-- lent as the part from a to a + n
pub part_span : (a n : ℕ) (l : List ℕ) → take (a + n - a) (drop a l) ≡ take n (drop a l)
part_span a n l = let e : a + n - a ≡ n = omega arith in rw e

pub length_span : (a n : ℕ) (l : List ℕ) → a + n ≤ length l → length (take (a + n - a) (drop a l)) ≡ n
length_span a n l h = ap length (part_span a n l) ∙ length_part a n l h

-- ---- k parts of n elements each

-- part i of k parts of n elements lies within them
pub part_fits : (n : ℕ) {i k : ℕ} → i < k → n * i + n ≤ n * k
part_fits n {i} {k} h =
    let e = mul-suc n i in
    let g = mul-le-mul_left {m = suc i} {n = k} n (omega arith) in
    omega arith

-- part i of n elements lies within m of them, where k parts do
pub part_within : (n : ℕ) {k i m : ℕ} → n * k ≤ m → i < k → n * i + n ≤ m
part_within n e h = le_trans (part_fits n h) e
