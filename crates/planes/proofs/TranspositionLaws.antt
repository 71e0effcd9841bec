-- The transposition makes the planes: a step tells for each bit the row and place that it came from, and over five
-- steps these are number and bit exchanged, which is tested for each of the 32 rows and 64 places.
use mathlib.Core.Bool.{Bool}
use mathlib.Core.List.{List}
use mathlib.Core.Path.{◌≡◌, refl, sym, ap, ap₂, ◌∙◌}
use Prim.Native.Nat.{ℕ, zero, suc, ◌+◌, ◌-◌, ◌*◌, ◌/◌, ◌%◌, ◌^◌, ◌<◌, ◌≤◌, min}
use native.Mathlib.Decide.{dec_lt}
use native.Mathlib.Nat.{mod-lt, mul_assoc}
use native.Mathlib.Omega.{arith}
use lib.Bits.{differ, shifted_even}
use lib.Dec.{T, eqb, eqb→eq, ltb, ltb→lt}
use lib.ListN.{get_or}
use lib.Pow.{pow-add, pow_pos, shl-shr, shr_le}
use Rattle.words.specs.Word.{xor, low}
use Rattle.words.specs.Bits.{Bits}
use Rattle.words.specs.WordLaws.{xor-bits, and-bits, bits_mono, low_bits}
use Rattle.words.specs.Digit.{digit}
use Rattle.words.specs.DigitLaws.{digit_lt, digit_div, digit_mod, digit_high, digit-xor, digit_and, ext_bits}
use Rattle.words.specs.Plane.{plane}
use Rattle.words.specs.PlaneLaws.{plane-bits, digit-plane}
use Rattle.words.specs.Tab.{tab}
use Rattle.words.specs.TabLaws.{tab_cong, tabulated_at}
use Rattle.words.specs.Table.{every}
use Rattle.words.specs.TableLaws.{every_at}
use Rattle.planes.specs.Transposition.{pick, packed, differences, lower, upper, stepped, transposed}

-- ---- a number moved up by s places

digit_up : (k s x : ℕ) → s ≤ k → digit k (x * 2 ^ s) ≡ digit (k - s) x
digit_up k s x h =
    let e : s + (k - s) ≡ k = omega arith in
    ap (λ (i : ℕ). digit i (x * 2 ^ s)) (sym e)
    ∙ sym (digit_div (k - s) s (x * 2 ^ s))
    ∙ ap (digit (k - s)) (shl-shr x s)

digit_even : (k a x : ℕ) → digit k (x * 2 ^ (suc a + k)) ≡ 0
unfolding digit
digit_even k a x =
    rw (pow-add 2 (suc a) k, ← mul_assoc x (2 ^ suc a) (2 ^ k))
    (ap (λ (z : ℕ). z % 2) (shl-shr (x * 2 ^ suc a) k) ∙ shifted_even x a)

digit_under : (k s x : ℕ) → k < s → digit k (x * 2 ^ s) ≡ 0
digit_under k s x h = let e : s ≡ suc (s - k - 1) + k = omega arith in rw e (digit_even k (s - k - 1) x)

-- ---- three bits

below2 : (p : ℕ → ℕ → ℕ → Bool) → T (every 2 (λ a. every 2 (λ b. every 2 (p a b)))) → (a b c : ℕ)
    → a < 2 → b < 2 → c < 2 → T (p a b c)
below2 p t a b c f g h =
    every_at 2 (p a b)
    (every_at 2 (λ b. every 2 (p a b)) (every_at 2 (λ a. every 2 (λ b. every 2 (p a b))) t a f) b g) c h

-- where c is 1 the bits a and b change places
exchanged0 : (a b c : ℕ) → a < 2 → b < 2 → c < 2 → differ a (min (differ a b) c) ≡ pick c a b
exchanged0 a b c f g h = eqb→eq _ _ (below2 (λ a b c. eqb (differ a (min (differ a b) c)) (pick c a b)) tt a b c f g h)

exchanged1 : (a b c : ℕ) → a < 2 → b < 2 → c < 2 → differ b (min (differ a b) c) ≡ pick c b a
exchanged1 a b c f g h = eqb→eq _ _ (below2 (λ a b c. eqb (differ b (min (differ a b) c)) (pick c b a)) tt a b c f g h)

differ_zero : (a b : ℕ) → b ≡ 0 → differ a b ≡ a
differ_zero zero b e = e
differ_zero (suc a) zero e = refl
differ_zero (suc a) (suc b) e = absurd (omega arith)

-- ---- packing

packed-bits : (v : ℕ → ℕ) (r : ℕ) → Bits 64 (packed v r)
unfolding packed
packed-bits v r = xor-bits (bits_mono (omega arith) (low_bits {n = 32} (v r))) (record { lt = mod-lt _ (pow_pos 64) })

digit-packed : (v : ℕ → ℕ) (r k : ℕ) → k < 64 → digit k (packed v r) ≡ digit (k % 32) (v (r + 32 * (k / 32)))
unfolding packed low
digit-packed v r k h =
    digit-xor k (low 32 (v r)) (v (r + 32) * 2 ^ 32 % 2 ^ 64)
    ∙ ap (differ (digit k (low 32 (v r)))) (digit_mod k 64 (v (r + 32) * 2 ^ 32) h)
    ∙ go (dec_lt k 32)
  where
    go : Dec (k < 32)
        → differ (digit k (low 32 (v r))) (digit k (v (r + 32) * 2 ^ 32)) ≡ digit (k % 32) (v (r + 32 * (k / 32)))
    go (yes p) =
        let e : k ≡ k % 32 = omega arith in
        let f : r ≡ r + 32 * (k / 32) = omega arith in
        differ_zero _ _ (digit_under k 32 (v (r + 32)) p)
        ∙ digit_mod k 32 (v r) p
        ∙ ap₂ (λ (i j : ℕ). digit i (v j)) e f
    go (no p) =
        let e : k - 32 ≡ k % 32 = omega arith in
        let f : r + 32 ≡ r + 32 * (k / 32) = omega arith in
        ap₂ differ (digit_high k (low_bits {n = 32} (v r)) (omega arith)) (digit_up k 32 (v (r + 32)) (omega arith))
        ∙ ap₂ (λ (i j : ℕ). digit i (v j)) e f

-- ---- a step

-- m has the bits k at which k / s is even
record Mask (s m : ℕ) : Type 0 where
  pub bits : Bits 64 m
  pub under : (k : ℕ) → k < s → k / s % 2 ≡ 0
  pub at : (k : ℕ) → k < 64 → digit k m ≡ 1 - k / s % 2
  pub above : (k : ℕ) → k < 64 → s ≤ k → digit (k - s) m ≡ k / s % 2
  -- the place that the step takes bit k of row r from
  pub inside : (r k : ℕ) → k < 64 → k - k / s % 2 * s + r % 2 * s < 64

mask : (s m : ℕ) → m < 2 ^ 64 → T (every s (λ k. eqb (k / s % 2) 0))
    → T (every 64 (λ k. eqb (digit k m) (1 - k / s % 2)))
    → T (every (64 - s) (λ k. eqb (digit k m) ((k + s) / s % 2)))
    → T (every 64 (λ k. every 2 (λ e. ltb (k - k / s % 2 * s + e * s) 64))) → Mask s m
mask s m b t u w z =
    record {
      bits = record { lt = b };
      under = λ k h. eqb→eq _ _ (every_at s (λ k. eqb (k / s % 2) 0) t k h);
      at = λ k h. eqb→eq _ _ (every_at 64 (λ k. eqb (digit k m) (1 - k / s % 2)) u k h);
      above = λ k h l.
          let e : k - s + s ≡ k = omega arith in
          eqb→eq (digit (k - s) m) _
          (every_at (64 - s) (λ k. eqb (digit k m) ((k + s) / s % 2)) w (k - s) (omega arith))
          ∙ ap (λ (i : ℕ). i / s % 2) e;
      inside = λ r k h.
          ltb→lt _ _
          (every_at 2 (λ e. ltb (k - k / s % 2 * s + e * s) 64)
          (every_at 64 (λ k. every 2 (λ e. ltb (k - k / s % 2 * s + e * s) 64)) z k h) (r % 2) (omega arith));
    }

module _ {s m : ℕ} (c : Mask s m) (x y : ℕ) where
  digit-differences : (k : ℕ) → digit k (differences s m x y) ≡ min (differ (digit (s + k) x) (digit k y)) (digit k m)
  unfolding differences
  digit-differences k =
      digit_and k (xor (x / 2 ^ s) y) m
      ∙ ap (λ (d : ℕ). min d (digit k m))
      (digit-xor k (x / 2 ^ s) y ∙ ap (λ (d : ℕ). differ d (digit k y)) (digit_div k s x))

  differences-bits : Bits 64 x → Bits 64 y → Bits 64 (differences s m x y)
  unfolding differences
  differences-bits a b = and-bits (xor-bits (record { lt = omega (arith, shr_le x s, a.lt) }) b) c.bits

  digit-upper : (k : ℕ) → k < 64 → digit k (upper s m x y) ≡ digit (k - k / s % 2 * s + s) (pick (k / s % 2) x y)
  digit-upper k h =
      digit-xor k y (differences s m x y)
      ∙ ap (differ (digit k y)) (digit-differences k ∙ ap (min _) (c.at k h))
      ∙ exchanged1 (digit (s + k) x) (digit k y) (1 - k / s % 2) (digit_lt (s + k) x) (digit_lt k y) (omega arith)
      ∙ go (k / s % 2) refl
    where
      go : (b : ℕ) → k / s % 2 ≡ b → pick (1 - b) (digit k y) (digit (s + k) x) ≡ digit (k - b * s + s) (pick b x y)
      go zero e = let f : s + k ≡ k - 0 * s + s = omega arith in ap (λ (i : ℕ). digit i x) f
      go (suc zero) e = at1 (dec_lt k s)
        where
          at1 : Dec (k < s) → digit k y ≡ digit (k - 1 * s + s) y
          at1 (yes p) = absurd (omega (arith, c.under k p))
          at1 (no p) = let f : k ≡ k - 1 * s + s = omega arith in ap (λ (i : ℕ). digit i y) f
      go (suc (suc b)) e = absurd (omega arith)

  digit-lower : (k : ℕ) → k < 64 → digit k (lower s m x y) ≡ digit (k - k / s % 2 * s) (pick (k / s % 2) x y)
  digit-lower k h =
      digit-xor k x (differences s m x y * 2 ^ s % 2 ^ 64)
      ∙ ap (differ (digit k x)) (digit_mod k 64 (differences s m x y * 2 ^ s) h)
      ∙ go (dec_lt k s)
    where
      picked : (b : ℕ) → k / s % 2 ≡ b → pick b (digit k x) (digit (k - s) y) ≡ digit (k - b * s) (pick b x y)
      picked zero e = let f : k ≡ k - 0 * s = omega arith in ap (λ (i : ℕ). digit i x) f
      picked (suc zero) e = let f : k - s ≡ k - 1 * s = omega arith in ap (λ (i : ℕ). digit i y) f
      picked (suc (suc b)) e = absurd (omega arith)

      go : Dec (k < s)
          → differ (digit k x) (digit k (differences s m x y * 2 ^ s))
          ≡ digit (k - k / s % 2 * s) (pick (k / s % 2) x y)
      go (yes p) =
          let f : k ≡ k - 0 * s = omega arith in
          rw (c.under k p) (differ_zero _ _ (digit_under k s (differences s m x y) p) ∙ ap (λ (i : ℕ). digit i x) f)
      go (no p) =
          let f : s + (k - s) ≡ k = omega arith in
          ap (differ (digit k x))
          (digit_up k s (differences s m x y) (omega arith)
          ∙ digit-differences (k - s)
          ∙ ap₂ (λ (i d : ℕ). min (differ (digit i x) (digit (k - s) y)) d) f (c.above k h (omega arith)))
          ∙ exchanged0 (digit k x) (digit (k - s) y) (k / s % 2) (digit_lt k x) (digit_lt (k - s) y) (omega arith)
          ∙ picked (k / s % 2) refl

module _ {s m : ℕ} (c : Mask s m) (w : ℕ → ℕ) where
  stepped-bits : ((r : ℕ) → Bits 64 (w r)) → (r : ℕ) → Bits 64 (stepped s m w r)
  unfolding stepped
  stepped-bits b r = go (r % 2)
    where
      go : (e : ℕ) → Bits 64 (pick e (lower s m (w (r / 2)) (w (r / 2 + 16))) (upper s m (w (r / 2)) (w (r / 2 + 16))))
      go zero = xor-bits (b (r / 2)) (record { lt = mod-lt _ (pow_pos 64) })
      go (suc e) = xor-bits (b (r / 2 + 16)) (differences-bits c _ _ (b (r / 2)) (b (r / 2 + 16)))

  digit-stepped : (r k : ℕ) → k < 64
      → digit k (stepped s m w r) ≡ digit (k - k / s % 2 * s + r % 2 * s) (w (r / 2 + k / s % 2 * 16))
  unfolding stepped
  digit-stepped r k h = side (w (r / 2)) (w (r / 2 + 16)) (r % 2) refl ∙ row (k / s % 2) refl
    where
      side : (x y e : ℕ) → r % 2 ≡ e
          → digit k (pick e (lower s m x y) (upper s m x y)) ≡ digit (k - k / s % 2 * s + e * s) (pick (k / s % 2) x y)
      side x y zero e =
          let f : k - k / s % 2 * s ≡ k - k / s % 2 * s + 0 * s = omega arith in
          digit-lower c x y k h ∙ ap (λ (i : ℕ). digit i (pick (k / s % 2) x y)) f
      side x y (suc zero) e =
          let f : k - k / s % 2 * s + s ≡ k - k / s % 2 * s + 1 * s = omega arith in
          digit-upper c x y k h ∙ ap (λ (i : ℕ). digit i (pick (k / s % 2) x y)) f
      side x y (suc (suc n)) e = absurd (omega arith)

      row : (b : ℕ) → k / s % 2 ≡ b
          → digit (k - b * s + r % 2 * s) (pick b (w (r / 2)) (w (r / 2 + 16)))
          ≡ digit (k - b * s + r % 2 * s) (w (r / 2 + b * 16))
      row zero e = let f : r / 2 ≡ r / 2 + 0 * 16 = omega arith in ap (λ (i : ℕ). digit (k - 0 * s + r % 2 * s) (w i)) f
      row (suc zero) e =
          let f : r / 2 + 16 ≡ r / 2 + 1 * 16 = omega arith in
          ap (λ (i : ℕ). digit (k - 1 * s + r % 2 * s) (w i)) f
      row (suc (suc b)) e = absurd (omega arith)

-- ---- five steps

record Masks : Type 0 where
  pub by16 : Mask 16 281470681808895
  pub by8 : Mask 8 71777214294589695
  pub by4 : Mask 4 1085102592571150095
  pub by2 : Mask 2 3689348814741910323
  pub by1 : Mask 1 6148914691236517205

masks : Masks
unfolding digit
masks =
    record {
      by16 = mask _ _ (omega arith) tt tt tt tt;
      by8 = mask _ _ (omega arith) tt tt tt tt;
      by4 = mask _ _ (omega arith) tt tt tt tt;
      by2 = mask _ _ (omega arith) tt tt tt tt;
      by1 = mask _ _ (omega arith) tt tt tt tt;
    }

-- where bit k of row r was before step s
abbrev row_before : ℕ → ℕ → ℕ → ℕ
row_before s r k = r / 2 + k / s % 2 * 16

abbrev bit_before : ℕ → ℕ → ℕ → ℕ
bit_before s r k = k - k / s % 2 * s + r % 2 * s

-- what a step makes of f r k, a test or a number for each bit of each row
abbrev back : {A : Type 0} → ℕ → (ℕ → ℕ → A) → ℕ → ℕ → A
back s f r k = f (row_before s r k) (bit_before s r k)

abbrev back5 : {A : Type 0} → (ℕ → ℕ → A) → ℕ → ℕ → A
back5 f = back 1 (back 2 (back 4 (back 8 (back 16 f))))

back_row : (r k : ℕ) → r < 32 → k < 64 → back5 (λ r k. r) r k ≡ k % 32
back_row r k g h =
    eqb→eq _ _
    (every_at 64 (λ k. eqb (back5 (λ r k. r) r k) (k % 32))
    (every_at 32 (λ r. every 64 (λ k. eqb (back5 (λ r k. r) r k) (k % 32))) tt r g) k h)

back_bit : (r k : ℕ) → r < 32 → k < 64 → back5 (λ r k. k) r k ≡ r + 32 * (k / 32)
back_bit r k g h =
    eqb→eq _ _
    (every_at 64 (λ k. eqb (back5 (λ r k. k) r k) (r + 32 * (k / 32)))
    (every_at 32 (λ r. every 64 (λ k. eqb (back5 (λ r k. k) r k) (r + 32 * (k / 32)))) tt r g) k h)

split_bit : (r k : ℕ) → r < 32 → (r + 32 * (k / 32)) % 32 ≡ r
split_bit r k h = omega arith

split_number : (r k : ℕ) → r < 32 → k % 32 + 32 * ((r + 32 * (k / 32)) / 32) ≡ k
split_number r k h = omega arith

-- after all steps row r holds bit r of each number
digit-transposed : (v : ℕ → ℕ) (r k : ℕ) → r < 32 → k < 64 → digit k (transposed v r) ≡ digit r (v k)
unfolding transposed
digit-transposed v r k g h =
    let r1 = row_before 1 r k in
    let k1 = bit_before 1 r k in
    let r2 = row_before 2 r1 k1 in
    let k2 = bit_before 2 r1 k1 in
    let r3 = row_before 4 r2 k2 in
    let k3 = bit_before 4 r2 k2 in
    let h1 = masks.by1.inside r k h in
    let h2 = masks.by2.inside r1 k1 h1 in
    let h3 = masks.by4.inside r2 k2 h2 in
    let h4 = masks.by8.inside r3 k3 h3 in
    let h5 = masks.by16.inside (row_before 8 r3 k3) (bit_before 8 r3 k3) h4 in
    digit-stepped masks.by1 _ r k h
    ∙ digit-stepped masks.by2 _ _ _ h1
    ∙ digit-stepped masks.by4 _ _ _ h2
    ∙ digit-stepped masks.by8 _ _ _ h3
    ∙ digit-stepped masks.by16 _ _ _ h4
    ∙ digit-packed v _ _ h5
    ∙ ap₂ (λ (i j : ℕ). digit (j % 32) (v (i + 32 * (j / 32)))) (back_row r k g h) (back_bit r k g h)
    ∙ ap₂ (λ (i j : ℕ). digit i (v j)) (split_bit r k g) (split_number r k g)

transposed-bits : (v : ℕ → ℕ) (r : ℕ) → Bits 64 (transposed v r)
unfolding transposed
transposed-bits v =
    stepped-bits masks.by1 _
    (stepped-bits masks.by2 _
    (stepped-bits masks.by4 _ (stepped-bits masks.by8 _ (stepped-bits masks.by16 _ (packed-bits v)))))

pub transposed-plane : (v : ℕ → ℕ) (r : ℕ) → r < 32 → transposed v r ≡ plane 64 v r
transposed-plane v r g =
    ext_bits (transposed-bits v r) (plane-bits 64 v r)
    (λ k h. digit-transposed v r k g h ∙ sym (digit-plane 64 v k r h))

-- ---- rows in lists

pub stepped_even : (s m : ℕ) (w : ℕ → ℕ) (i : ℕ) → stepped s m w (2 * i) ≡ lower s m (w i) (w (i + 16))
unfolding stepped
stepped_even s m w i = let e : 2 * i % 2 ≡ 0 = omega arith in let f : 2 * i / 2 ≡ i = omega arith in rw (e, f)

pub stepped_odd : (s m : ℕ) (w : ℕ → ℕ) (i : ℕ) → stepped s m w (2 * i + 1) ≡ upper s m (w i) (w (i + 16))
unfolding stepped
stepped_odd s m w i =
    let e : (2 * i + 1) % 2 ≡ 1 = omega arith in
    let f : (2 * i + 1) / 2 ≡ i = omega arith in
    rw (e, f)

-- a step on the rows of a list
pub stepped-tab : {l o : List ℕ} (s m : ℕ) (f : ℕ → ℕ) → l ≡ tab 32 f
    → o ≡ tab 32 (stepped s m (λ i. get_or l i 0)) → o ≡ tab 32 (stepped s m f)
unfolding stepped
stepped-tab {l} s m f e g =
    g
    ∙ tab_cong 32 (λ r h.
    ap₂ (λ (x y : ℕ). pick (r % 2) (lower s m x y) (upper s m x y)) (row (r / 2) (omega arith))
    (row (r / 2 + 16) (omega arith)))
  where
    row : (i : ℕ) → i < 32 → get_or l i 0 ≡ f i
    row i h = tabulated_at 32 f e i 0 h
