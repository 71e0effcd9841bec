-- The laws of sums and differences of polynomials.
use Rattle.std.specs.Prelude.{◌≡◌, ℕ, ◌+◌, ◌-◌, ◌*◌, ◌%◌, ◌<◌, ◌≤◌, List, ◌++◌, length, take, drop, replicate}
use Rattle.std.specs.Prelude.{slice_index, slice_set, refl}
use Rattle.std.proofs.Common.{sym, ap, ap₂, ◌∙◌, mod-lt, arith, length-set, length-append, get_or-set_same}
use Rattle.std.proofs.Common.{get_or-set_other, get_or-take, get_or-drop, get_or-append-add, ext_get_or}
use Rattle.std.proofs.Math.Nat.{add-mod}
use Rattle.std.proofs.Math.Decide.{dec_lt, ℕ_discrete}
use Rattle.std.proofs.lemmas.List.{length-replicate, get_or-replicate}
use Rattle.std.proofs.Math.ListN.{get_or-eq_default, get_or-append}
use Rattle.words.specs.Residue.{q}
use Rattle.words.specs.ResidueLaws.{mul_mod_mod, add_swap_mod}
use Rattle.words.specs.Tab.{tab}
use Rattle.words.specs.TabLaws.{length-tab, get_or-tab, tab_cong, tab_add, part_tab}
use Rattle.words.specs.Part.{length_part}
use Rattle.words.specs.Bounded.{Below}
use Rattle.words.specs.BoundedLaws.{below-tab}
use Rattle.ring.specs.Polynomial.{minus, add, sub}

-- a factor may be taken modulo q first
pub add_mul_mod : (x v y : ℕ) → (x + v * (y % q)) % q ≡ (x + v * y) % q
add_mul_mod x v y =
    add-mod x (v * (y % q)) q ∙ ap (λ (n : ℕ). (x % q + n) % q) (mul_mod_mod v y q) ∙ sym (add-mod x (v * y) q)

pub minus_mod : (x y : ℕ) → minus x (y % q) ≡ minus x y
minus_mod x y = add_mul_mod x (q - 1) y

pub length-add : (f g : List ℕ) → length (add f g) ≡ length f
unfolding add
length-add f g = length-tab (length f) _

pub length-sub : (f g : List ℕ) → length (sub f g) ≡ length f
unfolding sub
length-sub f g = length-tab (length f) _

pub below-add : (f g : List ℕ) → Below q (add f g)
unfolding add
below-add f g = below-tab (length f) (omega arith) (λ i h. mod-lt _ (omega arith))

pub below_sub : (f g : List ℕ) → Below q (sub f g)
unfolding sub
below_sub f g = below-tab (length f) (omega arith) (λ i h. mod-lt _ (omega arith))

-- an operation that takes zeros to zero, coefficient by coefficient
get_or_both : (op : ℕ → ℕ → ℕ) → op 0 0 ≡ 0 → (f g : List ℕ) (k : ℕ) → length f ≡ length g
    → slice_index (tab (length f) (λ i. op (slice_index f i) (slice_index g i))) k
    ≡ op (slice_index f k) (slice_index g k)
get_or_both op z f g k e = go (dec_lt k (length f))
  where
    h : ℕ → ℕ
    h i = op (slice_index f i) (slice_index g i)

    go : Dec (k < length f) → slice_index (tab (length f) h) k ≡ op (slice_index f k) (slice_index g k)
    go (yes l) = get_or-tab (length f) h k 0 l
    go (no l) =
        rw (
          get_or-eq_default (tab (length f) h) 0 {n = k} (omega (arith, length-tab (length f) h)),
          get_or-eq_default f 0 {n = k} (omega arith),
          get_or-eq_default g 0 {n = k} (omega arith),
        )
        (sym z)

pub get_or_add : (f g : List ℕ) (k : ℕ) → length f ≡ length g
    → slice_index (add f g) k ≡ (slice_index f k + slice_index g k) % q
unfolding add
get_or_add f g k e = get_or_both (λ x y. (x + y) % q) refl f g k e

pub get_or_add_lt : (f g : List ℕ) (k : ℕ) → k < length f
    → slice_index (add f g) k ≡ (slice_index f k + slice_index g k) % q
unfolding add
get_or_add_lt f g k h = get_or-tab (length f) _ k 0 h

pub get_or_sub : (f g : List ℕ) (k : ℕ) → length f ≡ length g
    → slice_index (sub f g) k ≡ minus (slice_index f k) (slice_index g k)
unfolding sub
get_or_sub f g k e = get_or_both minus refl f g k e

-- sums of two, regrouped
pub add_swap : (a b c d : List ℕ) → length a ≡ length b → length c ≡ length d
    → add (add a b) (add c d) ≡ add (add a c) (add b d)
add_swap a b c d h k =
    ext_get_or 0 _ _
    (length-add (add a b) (add c d) ∙ length-add a b ∙ sym (length-add (add a c) (add b d) ∙ length-add a c))
    (λ i g.
    let l : i < length a = omega (arith, length-add (add a b) (add c d), length-add a b) in
    get_or_add_lt (add a b) (add c d) i (omega (arith, length-add a b))
    ∙ ap₂ (λ (x y : ℕ). (x + y) % q) (get_or_add_lt a b i l) (get_or_add c d i k)
    ∙ add_swap_mod (slice_index a i) (slice_index b i) (slice_index c i) (slice_index d i) q
    ∙ sym
    (get_or_add_lt (add a c) (add b d) i (omega (arith, length-add a c))
    ∙ ap₂ (λ (x y : ℕ). (x + y) % q) (get_or_add_lt a c i l) (get_or_add_lt b d i (omega arith))))

pub add_set : (f g : List ℕ) (i x y : ℕ) → length f ≡ length g
    → add (slice_set f i x) (slice_set g i y) ≡ slice_set (add f g) i ((x + y) % q)
add_set f g i x y e =
    ext_get_or 0 _ _
    (length-add (slice_set f i x) (slice_set g i y) ∙ length-set f i x
    ∙ sym (length-set (add f g) i _ ∙ length-add f g))
    (λ k h.
    get_or_add (slice_set f i x) (slice_set g i y) k (length-set f i x ∙ e ∙ sym (length-set g i y))
    ∙ go k (omega (arith, length-add (slice_set f i x) (slice_set g i y), length-set f i x)) (ℕ_discrete k i))
  where
    go : (k : ℕ) → k < length f → Dec (k ≡ i)
        → (slice_index (slice_set f i x) k + slice_index (slice_set g i y) k) % q
        ≡ slice_index (slice_set (add f g) i ((x + y) % q)) k
    go k h (yes p) =
        rw p
        (ap₂ (λ (m n : ℕ). (m + n) % q) (get_or-set_same f i x 0 (omega arith)) (get_or-set_same g i y 0 (omega arith))
        ∙ sym (get_or-set_same (add f g) i ((x + y) % q) 0 (omega (arith, length-add f g))))
    go k h (no p) =
        ap₂ (λ (m n : ℕ). (m + n) % q) (get_or-set_other f i k x 0 p) (get_or-set_other g i k y 0 p)
        ∙ sym (get_or-set_other (add f g) i k ((x + y) % q) 0 p ∙ get_or_add f g k e)

-- lists that grow at their ends
pub add_append : (l m l' m' : List ℕ) → length l ≡ length m → add (l ++ l') (m ++ m') ≡ add l m ++ add l' m'
unfolding add
add_append l m l' m' e =
    ap (λ (n : ℕ). tab n (λ i. (slice_index (l ++ l') i + slice_index (m ++ m') i) % q)) (length-append l l')
    ∙ tab_add (length l) (length l') _
    ∙ ap₂ (λ (a b : List ℕ). a ++ b)
    (tab_cong (length l) (λ i h.
    ap₂ (λ (x y : ℕ). (x + y) % q) (get_or-append l l' 0 i h) (get_or-append m m' 0 i (omega arith))))
    (tab_cong (length l') (λ i h.
    ap₂ (λ (x y : ℕ). (x + y) % q) (get_or-append-add l l' i 0) (rw e (get_or-append-add m m' i 0))))

-- n coefficients from a on
pub part_add : (a n : ℕ) (f g : List ℕ) → a + n ≤ length f
    → take n (drop a (add f g)) ≡ add (take n (drop a f)) (take n (drop a g))
unfolding add
part_add a n f g h =
    part_tab a n (length f) _ h
    ∙ tab_cong n (λ i l.
    ap₂ (λ (x y : ℕ). (x + y) % q)
    (sym (get_or-take n (drop a f) i 0 l ∙ get_or-drop a f i 0))
    (sym (get_or-take n (drop a g) i 0 l ∙ get_or-drop a g i 0)))
    ∙ rw (length_part a n f h)

-- what is taken away in turn is taken away at once
pub sub-sub : (f g h : List ℕ) → length f ≡ length g → length g ≡ length h → sub (sub f g) h ≡ sub f (add g h)
sub-sub f g h e e' =
    ext_get_or 0 _ _ (length-sub (sub f g) h ∙ length-sub f g ∙ sym (length-sub f (add g h)))
    (λ k l.
    get_or_sub (sub f g) h k (length-sub f g ∙ e ∙ e')
    ∙ ap (λ (x : ℕ). minus x (slice_index h k)) (get_or_sub f g k e)
    ∙ regroup (slice_index f k) (slice_index g k) (slice_index h k)
    ∙ sym (get_or_sub f (add g h) k (e ∙ sym (length-add g h)) ∙ ap (minus (slice_index f k)) (get_or_add g h k e')))
  where
    regroup : (x y z : ℕ) → minus (minus x y) z ≡ minus x ((y + z) % q)
    regroup x y z =
        let e : minus (minus x y) z ≡ minus x (y + z) = omega arith in
        e ∙ sym (minus_mod x (y + z))

-- a sum of two shares is taken away share by share
pub sub_shares : (f g g' : List ℕ) → length f ≡ length g → length g ≡ length g'
    → add (sub f g) (sub (replicate (length f) 0) g') ≡ sub f (add g g')
sub_shares f g g' e e' =
    let z : List ℕ = replicate (length f) 0 in
    let l : length z ≡ length g' = length-replicate (length f) 0 ∙ e ∙ e' in
    ext_get_or 0 _ _ (length-add (sub f g) (sub z g') ∙ length-sub f g ∙ sym (length-sub f (add g g')))
    (λ k h.
    get_or_add (sub f g) (sub z g') k (length-sub f g ∙ sym (length-sub z g' ∙ length-replicate (length f) 0))
    ∙ ap₂ (λ (x y : ℕ). (x + y) % q) (get_or_sub f g k e)
    (get_or_sub z g' k l
    ∙ ap (λ (x : ℕ). minus x (slice_index g' k))
    (get_or-replicate (length f) k 0 0 (omega (arith, length-add (sub f g) (sub z g'), length-sub f g))))
    ∙ regroup (slice_index f k) (slice_index g k) (slice_index g' k)
    ∙ sym (get_or_sub f (add g g') k (e ∙ sym (length-add g g')) ∙ ap (minus (slice_index f k)) (get_or_add g g' k e')))
  where
    regroup : (x y y' : ℕ) → (minus x y + minus 0 y') % q ≡ minus x ((y + y') % q)
    regroup x y y' =
        sym (add-mod (x + (q - 1) * y) (0 + (q - 1) * y') q)
        ∙ ap (λ (n : ℕ). n % q) (omega arith)
        ∙ sym (minus_mod x (y + y'))
