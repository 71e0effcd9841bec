-- Laws of numerals.
use Rattle.std.specs.Prelude.{◌≡◌, refl, List, [], ◌∷◌, ◌++◌, ℕ, zero, suc, ◌+◌, ◌-◌, ◌*◌, ◌/◌, ◌%◌, ◌^◌, ◌<◌, ◌≤◌}
use Rattle.std.specs.Prelude.{length, get_or, replicate}
use Rattle.std.proofs.Common.{sym, ap, ap₂, ◌∙◌, subst, add-zero, zero-add, suc-add, zero-mul, mul-one, mul_assoc}
use Rattle.std.proofs.Common.{add-mul, div-one, div-lt_iff_lt-mul, mod-lt, mod-eq_of_lt, pow-suc, add-one, arith}
use Rattle.std.proofs.Common.{length-append, get_or-append-add}
use Rattle.std.proofs.Math.Decide.{dec_lt}
use Rattle.std.proofs.Math.Nat.{div-eq_of_lt, div-eq-sub-div, div-div-eq-div-mul, add-mul-div_right, mod-one}
use Rattle.std.proofs.Math.Nat.{mod-eq-sub-mod, mod-add-div', mul-add-mod_self_right, pow-zero, pow-succ', one-le-pow}
use Rattle.std.proofs.Math.Arith.{digits_div, digits_mod, digits_lt, mod-mul}
use Rattle.std.proofs.lemmas.List.{length-replicate}
use Rattle.std.proofs.Math.ListN.{get_or-append}
use Rattle.words.specs.Tab.{tab}
use Rattle.words.specs.TabLaws.{tab_of}
use Rattle.words.specs.Bounded.{Below}
use Rattle.words.specs.BoundedLaws.{below_positive, below_nil, below_cons, below_head, below_tail, below_append}
use Rattle.words.specs.BoundedLaws.{below_zeros}
use Rattle.words.specs.Numeral.{digits, value}

pub length_digits : (b n x : ℕ) → length (digits b n x) ≡ n
unfolding digits
length_digits b zero x = refl
length_digits b (suc n) x = ap suc (length_digits b n (x / b))

pub below-digits : (b n x : ℕ) → 0 < b → Below b (digits b n x)
unfolding digits
below-digits b zero x h = below_nil h
below-digits b (suc n) x h = below_cons (mod-lt x h) (below-digits b n (x / b) h)

-- the lowest digit, and the number above it
pub value_tail : {b x : ℕ} (v : ℕ) → x < b → (x + v * b) / b ≡ v
value_tail {b} {x} v h = ap (λ (n : ℕ). n / b) (omega arith) ∙ digits_div v h

pub value_head : {b x : ℕ} (v : ℕ) → x < b → (x + v * b) % b ≡ x
value_head {b} {x} v h = ap (λ (n : ℕ). n % b) (omega arith) ∙ digits_mod v h

-- the digits of v, and those of x above them
pub digits_append : (b n m v x : ℕ) → 0 < b → v < b ^ n
    → digits b (n + m) (v + x * b ^ n) ≡ digits b n v ++ digits b m x
unfolding digits
digits_append b zero m v x h l =
    let e : v + x * b ^ 0 ≡ x = omega (arith, pow-zero b, ap (λ (k : ℕ). x * k) (pow-zero b)) in
    rw (zero-add m, e)
digits_append b (suc n) m v x h l =
    let p : x * b ^ suc n ≡ x * b ^ n * b = omega (arith, ap (λ (k : ℕ). x * k) (pow-suc b n)) in
    rw (suc-add n m, p, add-mul-div_right v (x * b ^ n) h)
    (ap₂ (λ (y : ℕ) (l : List ℕ). y ∷ l)
    (ap (λ (y : ℕ). y % b) (omega arith) ∙ mul-add-mod_self_right (x * b ^ n) b v)
    (digits_append b n m (v / b) x h ((div-lt_iff_lt-mul h).1 (subst (λ (k : ℕ). v < k) (pow-suc b n) l))))

pub digits_split : (b n m x : ℕ) → 0 < b → digits b (n + m) x ≡ digits b n (x % b ^ n) ++ digits b m (x / b ^ n)
digits_split b n m x h =
    ap (digits b (n + m)) (sym (mod-add-div' x (b ^ n)))
    ∙ digits_append b n m (x % b ^ n) (x / b ^ n) h (mod-lt x (one-le-pow n b h))

pub digits_value : (b : ℕ) (l : List ℕ) → Below b l → digits b (length l) (value b l) ≡ l
unfolding digits value
digits_value b [] h = refl
digits_value b (x ∷ l) h =
    rw (value_tail (value b l) (below_head h), value_head (value b l) (below_head h))
    (ap (λ (m : List ℕ). x ∷ m) (digits_value b l (below_tail h)))

pub value-digits : (b n x : ℕ) → 0 < b → value b (digits b n x) ≡ x % b ^ n
unfolding digits value
value-digits b zero x h = rw pow-zero (sym (mod-one x))
value-digits b (suc n) x h =
    ap (λ (v : ℕ). x % b + v * b) (value-digits b n (x / b) h)
    ∙ (let e = mod-mul x (one-le-pow n b h) h in omega arith)
    ∙ ap (λ (m : ℕ). x % m) (sym (pow-suc b n))

value_snoc : (b : ℕ) (l : List ℕ) (x : ℕ) → value b (l ++ x ∷ []) ≡ value b l + x * b ^ length l
unfolding value
value_snoc b [] x = rw pow-zero (omega arith)
value_snoc b (y ∷ l) x = rw (value_snoc b l x, pow-suc b (length l)) (omega arith)

pub value_lt : (b : ℕ) (l : List ℕ) → Below b l → value b l < b ^ length l
unfolding value
value_lt b [] h = rw pow-zero (omega arith)
value_lt b (x ∷ l) h =
    rw (pow-suc b (length l))
    (let e = digits_lt (value_lt b l (below_tail h)) (below_head h) in omega arith)

get_or-digits : (b n x i : ℕ) → i < n → get_or (digits b n x) i 0 ≡ x / b ^ i % b
unfolding digits
get_or-digits b zero x i h = absurd (omega arith)
get_or-digits b (suc n) x zero h = rw (pow-zero, div-one)
get_or-digits b (suc n) x (suc i) h =
    get_or-digits b n (x / b) i (omega arith)
    ∙ ap (λ (y : ℕ). y % b) (div-div-eq-div-mul x b (b ^ i) ∙ ap (λ (m : ℕ). x / m) (sym (pow-succ' b i)))

-- digit i of the d digits of x and of a list m after them, where m's are the d digits of each number of l
pub get_or-digits_append : (b d x : ℕ) (l m : List ℕ) (i : ℕ) → 0 < d
    → get_or m (i - d) 0 ≡ get_or l ((i - d) / d) 0 / b ^ ((i - d) % d) % b
    → get_or (digits b d x ++ m) i 0 ≡ get_or (x ∷ l) (i / d) 0 / b ^ (i % d) % b
get_or-digits_append b d x l m i h r = go (dec_lt i d)
  where
    go : Dec (i < d) → get_or (digits b d x ++ m) i 0 ≡ get_or (x ∷ l) (i / d) 0 / b ^ (i % d) % b
    go (yes p) =
        get_or-append (digits b d x) m 0 i (omega (arith, length_digits b d x))
        ∙ get_or-digits b d x i p
        ∙ ap₂ (λ (k n : ℕ). get_or (x ∷ l) n 0 / b ^ k % b) (sym (mod-eq_of_lt p)) (sym (div-eq_of_lt p))
    go (no p) =
        let n : d ≤ i = omega arith in
        let e : i ≡ length (digits b d x) + (i - d) = omega (arith, length_digits b d x) in
        ap (λ (k : ℕ). get_or (digits b d x ++ m) k 0) e
        ∙ get_or-append-add (digits b d x) m (i - d) 0
        ∙ r
        ∙ ap₂ (λ (k n : ℕ). get_or (x ∷ l) n 0 / b ^ k % b)
        (sym (mod-eq-sub-mod n))
        (sym (div-eq-sub-div h n ∙ add-one ((i - d) / d)))

pub digits-tab : (b n x : ℕ) → digits b n x ≡ tab n (λ i. x / b ^ i % b)
digits-tab b n x = tab_of 0 (digits b n x) n (length_digits b n x) (λ i h. get_or-digits b n x i h)

pub value_append : (b : ℕ) (l m : List ℕ) → value b (l ++ m) ≡ value b l + value b m * b ^ length l
unfolding value
value_append b [] m = rw (pow-zero b, mul-one (value b m)) (omega arith)
value_append b (x ∷ l) m =
    let e = b ^ length l in
    rw (value_append b l m, pow-suc b (length l), ← mul_assoc (value b m) e b, add-mul (value b l) (value b m * e) b)
    (omega arith)

pub value_zeros : (b n : ℕ) → value b (replicate n 0) ≡ 0
unfolding value
value_zeros b zero = refl
value_zeros b (suc n) = rw (value_zeros b n, zero-mul b)

-- above its last digit a numeral goes on by zeros
pub digits-value_zeros : (b : ℕ) (l : List ℕ) (n : ℕ) → Below b l
    → digits b (length l + n) (value b l) ≡ l ++ replicate n 0
digits-value_zeros b l n h =
    ap₂ (digits b)
    (sym (length-append l (replicate n 0) ∙ ap (λ (k : ℕ). length l + k) (length-replicate n 0)))
    (sym (value_append b l (replicate n 0) ∙ rw (value_zeros b n, zero-mul (b ^ length l)) (add-zero (value b l))))
    ∙ digits_value b (l ++ replicate n 0) (below_append l h (below_zeros n (below_positive h)))
