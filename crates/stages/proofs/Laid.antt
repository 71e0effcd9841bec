-- Parts of two slices, one for each share, as the stages' lists: read one by one, put behind each other, and flat.
use mathlib.Core.Path.{◌≡◌, refl, sym, ap, ap₂, ◌∙◌}
use mathlib.Core.List.{List, [], ◌∷◌, ◌++◌, append-nil, flatten}
use Prim.Native.Nat.{ℕ, zero, suc, ◌+◌, ◌-◌, ◌*◌, ◌<◌, ◌≤◌}
use native.Mathlib.Nat.{mul-zero, mul-suc, mul-add}
use native.Mathlib.Omega.{arith}
use lib.ListN.{length, get_or, take, drop, length-append, length-take, length-drop, get_or-append}
use lib.Seq.{length-take-le, get_or-take, get_or-drop, get_or-append-add, drop-append-add}
use Rattle.words.specs.Part.{part_take, part_append, part_fits}
use Rattle.words.specs.Tab.{tab}
use Rattle.words.specs.TabLaws.{get_or-tab, tab_add, tab_cong}
use Rattle.worksheet.specs.Shares.{Shares}
use Rattle.worksheet.specs.Sharing.{shares}
use Rattle.worksheet.specs.SharedList.{SharedList, shared_list, shared_at}
use Rattle.worksheet.specs.Zip.{zip}
use Rattle.vectors.specs.Vector.{parts}
use Rattle.words.specs.Overwrite.{two_parts}
use Rattle.stages.specs.Moves.{nothing}
use Rattle.stages.specs.Layout.{part_of, parts_by, polynomials}
use Rattle.stages.specs.FlattenLaws.{flatten_append}
use Rattle.stages.specs.Lent.{Long}

polynomials_at : (k : ℕ) (z : SharedList) (i : ℕ) → i < k → get_or (polynomials k z) i nothing ≡ part_of 256 z i
unfolding parts_by
polynomials_at k z i h = get_or-tab k (λ j. part_of 256 z j) i nothing h

-- the first k of m polynomials, lent as a part, and the last one
pub front_polynomial : (k m : ℕ) (z : SharedList) (i : ℕ) → i < k → k ≤ m
    → part_of 256 (shared_list (take (256 * k) z.s0) (take (256 * k) z.s1)) i ≡ get_or (polynomials m z) i nothing
front_polynomial k m z i h g =
    ap₂ shared_list (part_take (256 * i) 256 (256 * k) z.s0 (part_fits 256 h))
    (part_take (256 * i) 256 (256 * k) z.s1 (part_fits 256 h))
    ∙ sym (polynomials_at m z i (omega arith))

pub last_polynomial : (k : ℕ) (l m : List ℕ) → length l ≡ 256 * k + 256 → length m ≡ 256 * k + 256
    → shared_list (take (length l - 256 * k) (drop (256 * k) l)) (take (length m - 256 * k) (drop (256 * k) m))
    ≡ get_or (polynomials (k + 1) (shared_list l m)) k nothing
last_polynomial k l m e g =
    let a : length l - 256 * k ≡ 256 = omega arith in
    let b : length m - 256 * k ≡ 256 = omega arith in
    rw (a, b) (sym (polynomials_at (k + 1) (shared_list l m) k (omega arith)))

-- element i of a part of n elements from a on
pub shared_at_part : (a n : ℕ) (l m : List ℕ) (i : ℕ) → i < n
    → shared_at (shared_list (take n (drop a l)) (take n (drop a m))) i ≡ shared_at (shared_list l m) (a + i)
shared_at_part a n l m i h =
    ap₂ shares (get_or-take n (drop a l) i 0 h ∙ get_or-drop a l i 0)
    (get_or-take n (drop a m) i 0 h ∙ get_or-drop a m i 0)

-- ---- j parts, and k parts behind them

module _ (n j : ℕ) (l r : List ℕ) (e : length l ≡ n * j) where
  parts_front : (i : ℕ) → i < j → parts n (l ++ r) i ≡ parts n l i
  parts_front i h = part_append (n * i) n l r (omega (arith, part_fits n h))

  parts_behind : (i : ℕ) → parts n (l ++ r) (j + i) ≡ parts n r i
  parts_behind i =
      let w : n * (j + i) ≡ length l + n * i = mul-add n j i ∙ ap (λ (x : ℕ). x + n * i) (sym e) in
      ap (λ (x : ℕ). take n (drop x (l ++ r))) w ∙ ap (take n) (drop-append-add l r (n * i))

-- both shares of x, and z behind them
abbrev pub appended : SharedList → SharedList → SharedList
appended x z = shared_list (x.s0 ++ z.s0) (x.s1 ++ z.s1)

pub parts_by_append : {A : Type 0} (f : SharedList → A) (n j k : ℕ) (x z : SharedList) → Long (n * j) x
    → parts_by f n (j + k) (appended x z) ≡ parts_by f n j x ++ parts_by f n k z
unfolding parts_by
parts_by_append {A} f n j k x z e =
    tab_add j k (λ i. f (part_of n (appended x z) i))
    ∙ ap₂ (λ (u v : List A). u ++ v)
    (tab_cong j (λ i h.
    ap f
    (ap₂ shared_list (parts_front n j x.s0 z.s0 e.long0 i h)
    (parts_front n j x.s1 z.s1 e.long1 i h))))
    (tab_cong k (λ i h.
    ap f
    (ap₂ shared_list (parts_behind n j x.s0 z.s0 e.long0 i) (parts_behind n j x.s1 z.s1 e.long1 i))))

get_or_behind : (m : ℕ) (l r : List ℕ) (i : ℕ) → length l ≡ m → get_or (l ++ r) (m + i) 0 ≡ get_or r i 0
get_or_behind m l r i e = ap (λ (x : ℕ). get_or (l ++ r) (x + i) 0) (sym e) ∙ get_or-append-add l r i 0

pub zip_append : (m n : ℕ) (x z : SharedList) → Long m x → zip (m + n) (appended x z) ≡ zip m x ++ zip n z
unfolding zip
zip_append m n x z e =
    tab_add m n (shared_at (appended x z))
    ∙ ap₂ (λ (u v : List Shares). u ++ v)
    (tab_cong m (λ i h.
    ap₂ shares (get_or-append x.s0 z.s0 0 i (omega (arith, e.long0)))
    (get_or-append x.s1 z.s1 0 i (omega (arith, e.long1)))))
    (tab_cong n (λ i h.
    ap₂ shares (get_or_behind m x.s0 z.s0 i e.long0) (get_or_behind m x.s1 z.s1 i e.long1)))

-- ---- two slices l of n elements, of which the first a are written, x, and then the others, z

-- l with x in front, what stands behind x, and l with z there
abbrev fronted : ℕ → List ℕ → List ℕ → List ℕ
fronted a l x = x ++ drop a l

abbrev rest : ℕ → List ℕ → List ℕ
rest a l = take (length l - a) (drop a l)

abbrev closed : ℕ → List ℕ → List ℕ → List ℕ
closed a l z = take a l ++ (z ++ drop (length l - a) (drop a l))

pub record Front (a n : ℕ) (l x : SharedList) : Type 0 where
  pub long : Long n l
  pub within : a ≤ n
  pub kept0 : length x.s0 ≡ length (take a l.s0)
  pub kept1 : length x.s1 ≡ length (take a l.s1)

pub record Whole (a n : ℕ) (l x z : SharedList) : Type 0 where
  pub front : Front a n l x
  pub kept0 : length z.s0 ≡ length (rest a (fronted a l.s0 x.s0))
  pub kept1 : length z.s1 ≡ length (rest a (fronted a l.s1 x.s1))

module _ {a n : ℕ} (l x : List ℕ) (long : length l ≡ n) (fits : a ≤ n) (kept : length x ≡ length (take a l)) where
  front_one : length x ≡ a
  front_one = kept ∙ length-take-le a l (omega arith)

  within_one : a ≤ length (fronted a l x)
  within_one = omega (arith, front_one, length-append x (drop a l))

  rest_one : length (rest a (fronted a l x)) ≡ n - a
  rest_one =
      omega (
        arith,
        front_one,
        length-take (length (x ++ drop a l) - a) (drop a (x ++ drop a l)),
        length-drop a (x ++ drop a l),
        length-append x (drop a l),
        length-drop a l,
      )

  module _ (z : List ℕ) (kept' : length z ≡ length (rest a (fronted a l x))) where
    whole_one : closed a (fronted a l x) z ≡ x ++ z
    whole_one =
        let e : a - 0 ≡ a = omega arith in
        rw e at (two_parts {r₁ = x} {r₂ = z} l a front_one (omega (arith, kept', rest_one)) refl refl)

    length_one : length (closed a (fronted a l x) z) ≡ length l
    length_one = ap length whole_one ∙ length-append x z ∙ omega (arith, front_one, kept', rest_one)

module _ {a n : ℕ} {l x : SharedList} (f : Front a n l x) where
  pub front_long : Long a x
  front_long =
      record {
        long0 = front_one l.s0 x.s0 f.long.long0 f.within f.kept0;
        long1 = front_one l.s1 x.s1 f.long.long1 f.within f.kept1;
      }

  pub front_within0 : a ≤ length (fronted a l.s0 x.s0)
  front_within0 = within_one l.s0 x.s0 f.long.long0 f.within f.kept0

  pub front_within1 : a ≤ length (fronted a l.s1 x.s1)
  front_within1 = within_one l.s1 x.s1 f.long.long1 f.within f.kept1

  pub rest-long :
      Long (n - a) (shared_list (rest a (fronted a l.s0 x.s0)) (rest a (fronted a l.s1 x.s1)))
  rest-long =
      record {
        long0 = rest_one l.s0 x.s0 f.long.long0 f.within f.kept0;
        long1 = rest_one l.s1 x.s1 f.long.long1 f.within f.kept1;
      }

module _ {a n : ℕ} {l x z : SharedList} (w : Whole a n l x z) where
  pub whole : shared_list (closed a (fronted a l.s0 x.s0) z.s0) (closed a (fronted a l.s1 x.s1) z.s1)
      ≡ appended x z
  whole =
      let f = w.front in
      ap₂ shared_list (whole_one l.s0 x.s0 f.long.long0 f.within f.kept0 z.s0 w.kept0)
      (whole_one l.s1 x.s1 f.long.long1 f.within f.kept1 z.s1 w.kept1)

  pub same_length0 : length (closed a (fronted a l.s0 x.s0) z.s0) ≡ length l.s0
  same_length0 =
      let f = w.front in
      length_one l.s0 x.s0 f.long.long0 f.within f.kept0 z.s0 w.kept0

  pub same_length1 : length (closed a (fronted a l.s1 x.s1) z.s1) ≡ length l.s1
  same_length1 =
      let f = w.front in
      length_one l.s1 x.s1 f.long.long1 f.within f.kept1 z.s1 w.kept1

-- ---- the sharings of k parts of d elements, one after the other

pub flatten_zips : (d k : ℕ) (z : SharedList) → flatten (parts_by (zip d) d k z) ≡ zip (d * k) z
unfolding parts_by zip tab flatten
flatten_zips d zero z = ap (λ (n : ℕ). tab n (shared_at z)) (sym (mul-zero d))
flatten_zips d (suc k) z =
    flatten_append (tab k (λ i. zip d (part_of d z i))) (zip d (part_of d z k) ∷ [])
    ∙ ap₂ (λ (x y : List Shares). x ++ y) (flatten_zips d k z)
    (append-nil (zip d (part_of d z k)) ∙ tab_cong d (λ i h. shared_at_part (d * k) d z.s0 z.s1 i h))
    ∙ sym (tab_add (d * k) d (shared_at z))
    ∙ ap (λ (n : ℕ). tab n (shared_at z)) (sym (mul-suc d k))
