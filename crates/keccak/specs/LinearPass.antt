-- Theta, rho and pi, one after the other, as a map of lanes: one lane of it, its width, and that it is linear.
use Rattle.std.specs.Prelude.{◌≡◌, List, ℕ, ◌+◌, ◌*◌, ◌/◌, ◌%◌, ◌<◌, ◌≤◌, leb, get_or}
use Rattle.std.proofs.Common.{sym, ap, ◌∙◌, arith, leb→le}
use Rattle.std.proofs.Math.Path.{ap₂}
use Rattle.words.specs.Word.{xor, rotl}
use Rattle.words.specs.Bits.{Bits}
use Rattle.words.specs.WordLaws.{xor-bits, xor_zero, xor_swap}
use Rattle.words.specs.Rotation.{rotl-bits, rotl-xor, rotl_zero}
use Rattle.words.specs.Tab.{tab}
use Rattle.words.specs.TabLaws.{get_or-tab, tab_cong}
use Rattle.words.specs.Iterate.{iterate}
use Rattle.words.specs.TableLaws.{every_at}
use Rattle.keccak.specs.KeccakP.{parity, effect, theta, walk, offset, rho, pi}

-- lane i of pi (rho (theta s)), for the state with the lanes s
unfoldable pub pass_at : (ℕ → ℕ) → ℕ → ℕ
pass_at s i = get_or (pi (rho (theta (tab 25 s)))) i 0

-- 25 lanes of 64 bits
pub record LaneBits (s : ℕ → ℕ) : Type 0 where
  pub at : (k : ℕ) → k < 25 → Bits 64 (s k)

-- the lane that pi takes to lane i, and its offset
unfoldable pub source : ℕ → ℕ
source i = (i % 5 + 3 * (i / 5)) % 5 + 5 * (i % 5)

unfoldable pub turn : ℕ → ℕ
turn i = offset (source i % 5) (source i / 5)

source_lt : (i : ℕ) → source i < 25
unfolding source
source_lt i = omega arith

pub turn_le : (i : ℕ) → i < 25 → turn i ≤ 64
unfolding turn source offset walk iterate
turn_le i h = leb→le _ _ (every_at 25 (λ i. leb (turn i) 64) tt i h)

-- ---- a column's five lanes

abbrev pub sum5 : (ℕ → ℕ) → ℕ
sum5 f = xor (xor (xor (xor (f 0) (f 1)) (f 2)) (f 3)) (f 4)

sum5_cong : {f g : ℕ → ℕ} → ((y : ℕ) → y < 5 → f y ≡ g y) → sum5 f ≡ sum5 g
sum5_cong e =
    ap₂ xor
    (ap₂ xor (ap₂ xor (ap₂ xor (e 0 (omega arith)) (e 1 (omega arith))) (e 2 (omega arith))) (e 3 (omega arith)))
    (e 4 (omega arith))

sum5-bits : {f : ℕ → ℕ} → ((y : ℕ) → y < 5 → Bits 64 (f y)) → Bits 64 (sum5 f)
sum5-bits b =
    xor-bits
    (xor-bits (xor-bits (xor-bits (b 0 (omega arith)) (b 1 (omega arith))) (b 2 (omega arith))) (b 3 (omega arith)))
    (b 4 (omega arith))

sum5-xor : (f g : ℕ → ℕ) → sum5 (λ y. xor (f y) (g y)) ≡ xor (sum5 f) (sum5 g)
sum5-xor f g =
    ap (λ (v : ℕ). xor (xor (xor v (xor (f 2) (g 2))) (xor (f 3) (g 3))) (xor (f 4) (g 4))) (xor_swap _ _ _ _)
    ∙ ap (λ (v : ℕ). xor (xor v (xor (f 3) (g 3))) (xor (f 4) (g 4))) (xor_swap _ _ _ _)
    ∙ ap (λ (v : ℕ). xor v (xor (f 4) (g 4))) (xor_swap _ _ _ _)
    ∙ xor_swap _ _ _ _

parity-tab : (s : ℕ → ℕ) (x : ℕ) → x < 5 → parity (tab 25 s) x ≡ sum5 (λ y. s (x + 5 * y))
parity-tab s x h = sum5_cong (λ y g. get_or-tab 25 s (x + 5 * y) 0 (omega arith))

-- ---- the pass of a list, and of equal lanes

theta_cong : (l m : List ℕ) → ((k : ℕ) → k < 25 → get_or l k 0 ≡ get_or m k 0) → theta l ≡ theta m
unfolding theta effect
theta_cong l m e =
    tab_cong 25 (λ i h. ap₂ xor (e _ (omega arith)) (ap₂ xor (column _) (ap (λ (v : ℕ). rotl 64 v 1) (column _))))
  where
    column : (x : ℕ) → parity l (x % 5) ≡ parity m (x % 5)
    column x = sum5_cong (λ y g. e (x % 5 + 5 * y) (omega arith))

pub pass_is : (l : List ℕ) (i : ℕ) → get_or (pi (rho (theta l))) i 0 ≡ pass_at (λ k. get_or l k 0) i
unfolding pass_at
pass_is l i =
    ap (λ (t : List ℕ). get_or (pi (rho t)) i 0) (theta_cong l _ (λ k h. sym (get_or-tab 25 (λ k. get_or l k 0) k 0 h)))

pub pass_cong : {s t : ℕ → ℕ} → ((k : ℕ) → k < 25 → s k ≡ t k) → (i : ℕ) → pass_at s i ≡ pass_at t i
unfolding pass_at
pass_cong e i = ap (λ (l : List ℕ). get_or (pi (rho (theta l))) i 0) (tab_cong 25 e)

-- ---- one lane of it

pass_lane : (s : ℕ → ℕ) (i : ℕ) → i < 25
    → pass_at s i ≡ rotl 64 (xor (s (source i)) (effect (tab 25 s) (source i % 5))) (turn i)
unfolding pass_at pi rho theta turn source
pass_lane s i h =
    let g : source i < 25 = source_lt i in
    let e : source i % 5 + 5 * (source i / 5) ≡ source i = omega arith in
    get_or-tab 25 _ i 0 h
    ∙ get_or-tab 25 _ (source i) 0 g
    ∙ ap (λ (v : ℕ). rotl 64 v (turn i))
    (rw e
    (get_or-tab 25 _ (source i) 0 g
    ∙ rw e (ap (λ (v : ℕ). xor v (effect (tab 25 s) (source i % 5))) (get_or-tab 25 s (source i) 0 g))))

module _ {s : ℕ → ℕ} (b : LaneBits s) where
  parity-bits : (x : ℕ) → Bits 64 (parity (tab 25 s) (x % 5))
  parity-bits x = rw (parity-tab s (x % 5) (omega arith)) (sum5-bits (λ y g. b.at (x % 5 + 5 * y) (omega arith)))

  effect-bits : (x : ℕ) → Bits 64 (effect (tab 25 s) x)
  unfolding effect
  effect-bits x = xor-bits (parity-bits _) (rotl-bits 64 _ 1 (omega arith) (parity-bits _))

  pub pass_bits : (i : ℕ) → i < 25 → Bits 64 (pass_at s i)
  pass_bits i h =
      rw (pass_lane s i h) (rotl-bits 64 _ (turn i) (turn_le i h) (xor-bits (b.at _ (source_lt i)) (effect-bits _)))

module _ {s t : ℕ → ℕ} (b : LaneBits s) (c : LaneBits t) where
  parity-xor : (x : ℕ)
      → parity (tab 25 (λ k. xor (s k) (t k))) (x % 5) ≡ xor (parity (tab 25 s) (x % 5)) (parity (tab 25 t) (x % 5))
  parity-xor x =
      let h : x % 5 < 5 = omega arith in
      parity-tab _ (x % 5) h
      ∙ sum5-xor (λ y. s (x % 5 + 5 * y)) (λ y. t (x % 5 + 5 * y))
      ∙ sym (ap₂ xor (parity-tab s (x % 5) h) (parity-tab t (x % 5) h))

  effect-xor : (x : ℕ) → effect (tab 25 (λ k. xor (s k) (t k))) x ≡ xor (effect (tab 25 s) x) (effect (tab 25 t) x)
  unfolding effect
  effect-xor x =
      ap₂ xor (parity-xor _)
      (ap (λ (v : ℕ). rotl 64 v 1) (parity-xor _) ∙ rotl-xor 1 (omega arith) (parity-bits b _) (parity-bits c _))
      ∙ xor_swap _ _ _ _

  pub pass_xor : (i : ℕ) → i < 25 → pass_at (λ k. xor (s k) (t k)) i ≡ xor (pass_at s i) (pass_at t i)
  pass_xor i h =
      pass_lane _ i h
      ∙ ap (λ (v : ℕ). rotl 64 v (turn i))
      (ap (λ (v : ℕ). xor (xor (s (source i)) (t (source i))) v) (effect-xor _) ∙ xor_swap _ _ _ _)
      ∙ rotl-xor (turn i) (turn_le i h) (xor-bits (b.at _ (source_lt i)) (effect-bits b _))
      (xor-bits (c.at _ (source_lt i)) (effect-bits c _))
      ∙ sym (ap₂ xor (pass_lane s i h) (pass_lane t i h))

-- a state whose columns are all even passes lane by lane
module _ (s : ℕ → ℕ) (e : (x : ℕ) → x < 5 → sum5 (λ y. s (x + 5 * y)) ≡ 0) where
  parity_even : (x : ℕ) → parity (tab 25 s) (x % 5) ≡ 0
  parity_even x = parity-tab s (x % 5) (omega arith) ∙ e (x % 5) (omega arith)

  effect_even : (x : ℕ) → effect (tab 25 s) x ≡ 0
  unfolding effect
  effect_even x =
      ap₂ xor (parity_even _) (ap (λ (v : ℕ). rotl 64 v 1) (parity_even _) ∙ rotl_zero 1 (omega arith)) ∙ xor_zero 0

  pub pass_even : (i : ℕ) → i < 25 → pass_at s i ≡ rotl 64 (s (source i)) (turn i)
  pass_even i h =
      pass_lane s i h ∙ ap (λ (v : ℕ). rotl 64 v (turn i)) (ap (xor (s (source i))) (effect_even _) ∙ xor_zero _)
