-- Laws of tabulated lists.
use Rattle.std.specs.Prelude.{◌≡◌}
use Rattle.std.proofs.Math.Path.{refl, ap, ap₂}
use Rattle.std.proofs.Common.{sym, ◌∙◌, add-zero, add-suc, get_or-take, get_or-drop, ext_get_or}
use mathlib.Core.List.{List, [], ◌∷◌, ◌++◌, map, append-nil, append_assoc}
use Prim.Native.Nat.{ℕ, zero, suc, ◌+◌, ◌<◌, ◌≤◌}
use Rattle.std.proofs.Math.Decide.{dec_lt}
use native.Mathlib.Omega.{arith}
use lib.ListN.{length, get_or, take, drop, length-append, length-take, length-drop, get_or-append}
use Rattle.std.proofs.lemmas.List.{get_or_at}
use Rattle.words.specs.Tab.{tab}

module _ {A : Type 0} where
  pub length-tab : (n : ℕ) (f : ℕ → A) → length (tab n f) ≡ n
  unfolding tab
  length-tab zero f = refl
  length-tab (suc n) f = length-append (tab n f) (f n ∷ []) ∙ omega (arith, length-tab n f)

  pub get_or-tab : (n : ℕ) (f : ℕ → A) (i : ℕ) (d : A) → i < n → get_or (tab n f) i d ≡ f i
  unfolding tab
  get_or-tab zero f i d h = absurd (omega arith)
  get_or-tab (suc n) f i d h = go (dec_lt i n) (get_or-tab n f i d)
    where
      go : Dec (i < n) → (i < n → get_or (tab n f) i d ≡ f i) → get_or (tab n f ++ f n ∷ []) i d ≡ f i
      go (yes p) r = get_or-append (tab n f) (f n ∷ []) d i (rw (length-tab n f) p) ∙ r p
      go (no p) r = let e : i ≡ n = omega arith in rw e (get_or_at (tab n f) (f n) [] d n (length-tab n f))

  -- a list that is equal to a tabulated one: its length, and its element i
  pub tabulated_length : (n : ℕ) (f : ℕ → A) {l : List A} → l ≡ tab n f → length l ≡ n
  tabulated_length n f e = ap length e ∙ length-tab n f

  pub tabulated_at : (n : ℕ) (f : ℕ → A) {l : List A} → l ≡ tab n f → (i : ℕ) (d : A) → i < n → get_or l i d ≡ f i
  tabulated_at n f e i d h = ap (λ (m : List A). get_or m i d) e ∙ get_or-tab n f i d h

  pub tab_cong : (n : ℕ) {f g : ℕ → A} → ((i : ℕ) → i < n → f i ≡ g i) → tab n f ≡ tab n g
  unfolding tab
  tab_cong zero e = refl
  tab_cong (suc n) e =
      ap₂ (λ (l : List A) (x : A). l ++ x ∷ []) (tab_cong n (λ i h. e i (omega arith))) (e n (omega arith))

  pub tab_add : (n m : ℕ) (f : ℕ → A) → tab (n + m) f ≡ tab n f ++ tab m (λ i. f (n + i))
  unfolding tab
  tab_add n zero f = rw (add-zero n) (sym (append-nil (tab n f)))
  tab_add n (suc m) f =
      rw (add-suc n m, tab_add n m f) (append_assoc (tab n f) (tab m (λ i. f (n + i))) (f (n + m) ∷ []))

  pub tab_cons : (n : ℕ) (f : ℕ → A) → tab (suc n) f ≡ f 0 ∷ tab n (λ i. f (suc i))
  unfolding tab
  tab_cons zero f = refl
  tab_cons (suc n) f = ap (λ (l : List A). l ++ f (suc n) ∷ []) (tab_cons n f)

  -- a list is tabulated by its elements
  pub tab_of : (d : A) (l : List A) (n : ℕ) {f : ℕ → A} → length l ≡ n → ((i : ℕ) → i < n → get_or l i d ≡ f i)
      → l ≡ tab n f
  tab_of d l n {f} e h =
      ext_get_or d l (tab n f) (e ∙ sym (length-tab n f))
      (λ i g. let k : i < n = omega arith in h i k ∙ sym (get_or-tab n f i d k))

  -- n elements from a on
  pub tab_part : (d : A) (a n : ℕ) (l : List A) → a + n ≤ length l → take n (drop a l) ≡ tab n (λ i. get_or l (a + i) d)
  tab_part d a n l h =
      tab_of d _ n (length-take n (drop a l) ∙ omega (arith, length-drop a l))
      (λ i g. get_or-take n (drop a l) i d g ∙ get_or-drop a l i d)

  pub part_tab : (a n m : ℕ) (f : ℕ → A) → a + n ≤ m → take n (drop a (tab m f)) ≡ tab n (λ i. f (a + i))
  part_tab a n m f h =
      tab_part (f 0) a n (tab m f) (omega (arith, length-tab m f))
      ∙ tab_cong n (λ i g. get_or-tab m f (a + i) (f 0) (omega arith))

pub tab-get_or : {A B : Type 0} (g : A → B) (d : A) (l : List A) → tab (length l) (λ i. g (get_or l i d)) ≡ map g l
tab-get_or g d l =
    sym (tab_of (g d) (map g l) (length l) (lib.ListN.length-map l g) (λ i h. lib.ListN.get_or-map g l i d))
