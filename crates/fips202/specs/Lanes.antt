-- Lanes of a string of bytes. Past its end a string reads as zeros.
use Rattle.std.specs.Prelude.{◌≡◌, refl, ℕ, zero, suc, ◌+◌, ◌-◌, ◌*◌, ◌/◌, ◌%◌, ◌^◌, ◌<◌, ◌≤◌}
use Rattle.std.specs.Prelude.{List, [], ◌∷◌, ◌++◌, length, get_or, take, drop, replicate}
use Rattle.std.proofs.Common.{sym, ap, ◌∙◌, add-zero, zero-mul, mul_assoc, mod-lt, div-add-mod', div-lt_iff_lt-mul}
use Rattle.std.proofs.Common.{suc-mul, arith, length-append, length-take, drop_of_length-le, get_or-take, get_or-drop}
use Rattle.std.proofs.Math.Decide.{dec_lt}
use Rattle.std.proofs.Math.Nat.{lt-div-mul-add}
use Rattle.std.proofs.Math.Arith.{digits_div, digits_mod}
use Rattle.std.proofs.lemmas.List.{length-replicate}
use Rattle.words.specs.Tab.{tab}
use Rattle.words.specs.TabLaws.{tab_cong, tab_of}
use Rattle.words.specs.Part.{get_or-take_past}
use Rattle.words.specs.Numeral.{value}
use Rattle.words.specs.NumeralLaws.{value_append, value_zeros}
use Rattle.fips202.specs.Sponge.{lane_of}

get_or_zeros : (m x : ℕ) → get_or {A = ℕ} (replicate m 0) x 0 ≡ 0
get_or_zeros zero x = refl
get_or_zeros (suc m) zero = refl
get_or_zeros (suc m) (suc x) = get_or_zeros m x

get_or_append_zeros : (l : List ℕ) (m x : ℕ) → get_or (l ++ replicate m 0) x 0 ≡ get_or l x 0
get_or_append_zeros [] m x = get_or_zeros m x
get_or_append_zeros (y ∷ l) m zero = refl
get_or_append_zeros (y ∷ l) m (suc x) = get_or_append_zeros l m x

-- the first n digits of a numeral
value-take : (b n : ℕ) (l : List ℕ) → value b (take n l) ≡ value b (tab n (λ i. get_or l i 0))
value-take b n l =
    sym (value_append b t z ∙ rw (value_zeros b (n - length t), zero-mul (b ^ length t)) (add-zero (value b t)))
    ∙ ap (value b) (tab_of 0 (t ++ z) n long at)
  where
    t : List ℕ
    t = take n l

    z : List ℕ
    z = replicate (n - length t) 0

    long : length (t ++ z) ≡ n
    long = length-append t z ∙ omega (arith, length-replicate {A = ℕ} (n - length t) 0, length-take n l)

    at : (i : ℕ) → i < n → get_or (t ++ z) i 0 ≡ get_or l i 0
    at i h = get_or_append_zeros t (n - length t) i ∙ get_or-take n l i 0 h

pub lane_of-tab : (p : List ℕ) (j : ℕ) → lane_of p j ≡ value 256 (tab 8 (λ k. get_or p (8 * j + k) 0))
lane_of-tab p j = value-take 256 8 (drop (8 * j) p) ∙ ap (value 256) (tab_cong 8 (λ k h. get_or-drop (8 * j) p k 0))

-- zeros after a string leave its lanes as they are
pub lane_of_zeros : (n : ℕ) (l : List ℕ) (m j : ℕ) → lane_of (take n (l ++ replicate m 0)) j ≡ lane_of (take n l) j
lane_of_zeros n l m j =
    lane_of-tab (take n (l ++ replicate m 0)) j
    ∙ ap (value 256) (tab_cong 8 (λ k h. at (8 * j + k) (dec_lt (8 * j + k) n)))
    ∙ sym (lane_of-tab (take n l) j)
  where
    at : (x : ℕ) → Dec (x < n) → get_or (take n (l ++ replicate m 0)) x 0 ≡ get_or (take n l) x 0
    at x (yes h) = get_or-take n (l ++ replicate m 0) x 0 h ∙ get_or_append_zeros l m x ∙ sym (get_or-take n l x 0 h)
    at x (no h) =
        get_or-take_past n (l ++ replicate m 0) x 0 (omega arith) ∙ sym (get_or-take_past n l x 0 (omega arith))

-- past a block's bytes there are none
pub lane_of_past : (rate : ℕ) (p : List ℕ) (j : ℕ) → rate % 8 ≡ 0 → rate / 8 ≤ j → lane_of (take rate p) j ≡ 0
unfolding value
lane_of_past rate p j d h = rw (drop_of_length-le (take rate p) {i = 8 * j} (omega (arith, length-take rate p)))

-- byte x of an output, whose blocks are of rate bytes: the block, its word and the word's byte
pub byte_place : (rate x : ℕ) → 0 < rate → rate % 8 ≡ 0
    → (x / 8 / (rate / 8) ≡ x / rate) × (x / 8 % (rate / 8) ≡ x % rate / 8) × (x % 8 ≡ x % rate % 8)
byte_place rate x h d =
    let l = rate / 8 in
    let q = x / rate in
    let r = x % rate in
    let w : l * 8 ≡ rate = omega arith in
    let s : r < rate = mod-lt x h in
    let e : q * l * 8 + r ≡ x =
    ap (λ (k : ℕ). k + r) (mul_assoc q l 8 ∙ ap (λ (k : ℕ). q * k) w) ∙ div-add-mod' x rate in
    let t : x / 8 ≡ q * l + r / 8 = omega (arith, e) in
    let u : r / 8 < l = omega arith in
    (rw t (digits_div q u), rw t (digits_mod q u), omega (arith, e))

-- n bytes lie in the first block and (n - 1) / rate others
pub block_lt : (rate n x : ℕ) → 0 < rate → x < n → x / rate < suc ((n - 1) / rate)
block_lt rate n x h g =
    (div-lt_iff_lt-mul {k = rate} h).1
    (omega (arith, suc-mul ((n - 1) / rate) rate, lt-div-mul-add {a = n - 1} {b = rate} h))
