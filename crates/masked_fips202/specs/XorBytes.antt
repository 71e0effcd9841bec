-- Strings of bytes, one of them the exclusive or of two others byte by byte.
use Rattle.std.specs.Prelude.{◌≡◌, List, ◌++◌, ℕ, zero, suc, ◌+◌, ◌-◌, ◌*◌, ◌/◌, ◌%◌, ◌^◌, ◌<◌, ◌≤◌, eqb, take, drop}
use Rattle.std.proofs.Math.Path.{sym, ap}
use Rattle.std.proofs.Common.{ap₂, ◌∙◌, add_comm, one-add, eqb→eq, get_or-take, get_or-drop}
use Rattle.std.proofs.Math.Decide.{dec_lt}
use native.Mathlib.Omega.{arith}
use Rattle.std.proofs.lemmas.Nat.{xor_block}
use Rattle.std.proofs.Math.ListN.{length, get_or, get_or-append, get_or-eq_default}
use Rattle.std.proofs.Math.Seq.{get_or-append-add}
use Rattle.words.specs.Word.{xor, low}
use Rattle.words.specs.Bits.{Bits}
use Rattle.words.specs.WordLaws.{xor_zero, xor_shift, low-xor}
use Rattle.words.specs.Bounded.{Below}
use Rattle.words.specs.BoundedLaws.{below-tab}
use Rattle.words.specs.Tab.{tab}
use Rattle.words.specs.TabLaws.{length-tab, get_or-tab, tab_add, tab_cong}
use Rattle.words.specs.Part.{get_or-take_past}
use Rattle.words.specs.TableLaws.{every_at}
use Rattle.words.specs.Numeral.{value}
use Rattle.words.specs.NumeralLaws.{value_lt}
use Rattle.worksheet.specs.Sharing.{shares, joined}
use Rattle.worksheet.specs.SharingLaws.{Sharing}
use Rattle.worksheet.specs.SharedList.{shared_list, shared_at, joined_list}
use Rattle.fips202.specs.Sponge.{padding, padded, lane_of}
use Rattle.fips202.specs.Lanes.{lane_of-tab}

-- byte by byte, past the ends too
pub record XorOf (p p0 p1 : List ℕ) : Type 0 where
  pub at : (x : ℕ) → get_or p x 0 ≡ xor (get_or p0 x 0) (get_or p1 x 0)

pub xor_of_drop : {p p0 p1 : List ℕ} (n : ℕ) → XorOf p p0 p1 → XorOf (drop n p) (drop n p0) (drop n p1)
xor_of_drop {p} {p0} {p1} n a =
    record { at = λ x. rw (get_or-drop n p x 0, get_or-drop n p0 x 0, get_or-drop n p1 x 0) (a.at (n + x)) }

pub xor_of_take : {p p0 p1 : List ℕ} (n : ℕ) → XorOf p p0 p1 → XorOf (take n p) (take n p0) (take n p1)
xor_of_take {p} {p0} {p1} n a = record { at = λ x. go x (dec_lt x n) }
  where
    go : (x : ℕ) → Dec (x < n) → get_or (take n p) x 0 ≡ xor (get_or (take n p0) x 0) (get_or (take n p1) x 0)
    go x (yes h) = rw (get_or-take n p x 0 h, get_or-take n p0 x 0 h, get_or-take n p1 x 0 h) (a.at x)
    go x (no h) =
        let g : n ≤ x = omega arith in
        rw (get_or-take_past n p x 0 g, get_or-take_past n p0 x 0 g, get_or-take_past n p1 x 0 g) (sym (xor_zero 0))

-- ---- a message and its shares

module _ (in0 in1 : List ℕ) (e : length in0 ≡ length in1) where
  abbrev m : List ℕ
  m = joined_list (shared_list in0 in1)

  pub length_joined : length m ≡ length in0
  unfolding joined_list
  length_joined = length-tab (length in0) _

  -- where bytes follow the message and its share 0
  append_at : (pad : List ℕ) (x : ℕ) → Dec (x < length in0)
      → get_or (m ++ pad) x 0 ≡ xor (get_or (in0 ++ pad) x 0) (get_or in1 x 0)
  unfolding joined_list
  append_at pad x (yes h) =
      get_or-append m pad 0 x (rw length_joined h)
      ∙ get_or-tab (length in0) (λ i. joined (shared_at (shared_list in0 in1) i)) x 0 h
      ∙ ap (λ (y : ℕ). xor y (get_or in1 x 0)) (sym (get_or-append in0 pad 0 x h))
  append_at pad x (no h) =
      let y = x - length in0 in
      let w : x ≡ length in0 + y = omega arith in
      let v : x ≡ length m + y = omega (arith, length_joined) in
      (ap (λ (k : ℕ). get_or (m ++ pad) k 0) v ∙ get_or-append-add m pad y 0)
      ∙ sym
      (ap₂ xor (ap (λ (k : ℕ). get_or (in0 ++ pad) k 0) w ∙ get_or-append-add in0 pad y 0)
      (get_or-eq_default in1 0 {n = x} (omega arith))
      ∙ xor_zero (get_or pad y 0))

  -- the padding goes into share 0
  pub xor_of_padded : (rate suffix : ℕ) → XorOf (padded rate suffix m) (padded rate suffix in0) in1
  unfolding padded
  xor_of_padded rate suffix =
      record {
        at = λ x. rw length_joined
            (append_at (padding suffix (rate - 1 - length in0 % rate)) x (dec_lt x (length in0)));
      }

-- ---- lanes

value-tab-suc : (b n : ℕ) (f : ℕ → ℕ) → value b (tab (suc n) f) ≡ f 0 + value b (tab n (λ i. f (suc i))) * b
unfolding value tab
value-tab-suc b n f =
    ap (λ (k : ℕ). value b (tab k f)) (sym (one-add n))
    ∙ ap (value b) (tab_add 1 n f)
    ∙ ap (λ (l : List ℕ). f 0 + value b l * b) (tab_cong n (λ i h. ap f (one-add i)))

low_byte_xor : (x y v w : ℕ) → x < 256 → y < 256 → xor x y + xor v w * 256 ≡ xor (x + v * 256) (y + w * 256)
unfolding xor
low_byte_xor x y v w h k =
    add_comm (xor x y) (xor v w * 256)
    ∙ sym (xor_block 8 v w x y h k)
    ∙ ap₂ xor (add_comm (v * 256) x) (add_comm (w * 256) y)

value-xor : (n : ℕ) (f g : ℕ → ℕ) → ((k : ℕ) → f k < 256) → ((k : ℕ) → g k < 256)
    → value 256 (tab n (λ k. xor (f k) (g k))) ≡ xor (value 256 (tab n f)) (value 256 (tab n g))
unfolding value tab
value-xor zero f g a b = sym (xor_zero 0)
value-xor (suc n) f g a b =
    value-tab-suc 256 n (λ k. xor (f k) (g k))
    ∙ ap (λ (v : ℕ). xor (f 0) (g 0) + v * 256)
    (value-xor n (λ k. f (suc k)) (λ k. g (suc k)) (λ k. a (suc k)) (λ k. b (suc k)))
    ∙ low_byte_xor (f 0) (g 0) (value 256 (tab n (λ i. f (suc i)))) (value 256 (tab n (λ i. g (suc i)))) (a 0) (b 0)
    ∙ ap₂ xor (sym (value-tab-suc 256 n f)) (sym (value-tab-suc 256 n g))

pub lane_of-bits : {p : List ℕ} → Below 256 p → (j : ℕ) → Bits 64 (lane_of p j)
lane_of-bits {p} a j =
    let t = tab 8 (λ k. get_or p (8 * j + k) 0) in
    let l : value 256 t < 256 ^ length t = value_lt 256 t (below-tab 8 (omega arith) (λ i h. a.at (8 * j + i))) in
    record { lt = rw (lane_of-tab p j) (rw (length-tab 8 (λ k. get_or p (8 * j + k) 0)) at l) }

pub sharing_lane : {p p0 p1 : List ℕ} → XorOf p p0 p1 → Below 256 p0 → Below 256 p1 → (j : ℕ)
    → Sharing 64 (lane_of p j) (shares (lane_of p0 j) (lane_of p1 j))
sharing_lane {p} {p0} {p1} a b0 b1 j =
    record {
      bits0 = lane_of-bits b0 j;
      bits1 = lane_of-bits b1 j;
      joins = sym
          (lane_of-tab p j
          ∙ ap (value 256) (tab_cong 8 (λ k h. a.at (8 * j + k)))
          ∙ value-xor 8 (λ k. get_or p0 (8 * j + k) 0) (λ k. get_or p1 (8 * j + k) 0) (λ k. b0.at (8 * j + k))
          (λ k. b1.at (8 * j + k))
          ∙ ap₂ xor (sym (lane_of-tab p0 j)) (sym (lane_of-tab p1 j)));
    }

-- ---- bytes of words

-- byte k of a word
pub byte_xor : (u v k : ℕ) → k < 8 → xor (u / 256 ^ k % 256) (v / 256 ^ k % 256) ≡ xor u v / 256 ^ k % 256
unfolding low
byte_xor u v k h =
    let e : 2 ^ (8 * k) ≡ 256 ^ k =
    eqb→eq (2 ^ (8 * k)) (256 ^ k) (every_at 8 (λ k. eqb (2 ^ (8 * k)) (256 ^ k)) tt k h) in
    sym (ap (λ (w : ℕ). w % 256) (rw e at (xor_shift (8 * k) u v)) ∙ low-xor 8 (u / 256 ^ k) (v / 256 ^ k))
