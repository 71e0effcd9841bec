-- The bits of a padded message: appendix B.2's bytes, which the sponge takes in, are those of Algorithm 9.
use Rattle.std.specs.Prelude.{◌≡◌, refl, replicate}
use Rattle.std.proofs.Common.{sym, ◌∙◌, mul_left_comm, div-add-mod', mod-lt, mod-eq_of_lt, length-append, pow-add}
use Rattle.std.proofs.Math.Path.{ap, ap₂}
use mathlib.Core.List.{List, [], ◌∷◌, ◌++◌, append_assoc, append-nil}
use Prim.Native.Nat.{ℕ, zero, suc, ◌+◌, ◌-◌, ◌*◌, ◌/◌, ◌%◌, ◌^◌, ◌<◌, ◌≤◌}
use Rattle.std.proofs.Math.Decide.{dec_lt}
use Rattle.std.proofs.Math.Nat.{mod_self, sub-zero, mul-add-mod_self_right}
use native.Mathlib.Omega.{arith}
use Rattle.std.proofs.Math.Arith.{digits_mod}
use Rattle.std.proofs.Math.ListN.{length}
use Rattle.std.proofs.lemmas.List.{length-replicate, replicate-append-replicate}
use Rattle.std.proofs.Math.Seq.{append_snoc}
use Rattle.words.specs.Bounded.{Below}
use Rattle.words.specs.BoundedLaws.{below_nil, below_cons, below_append, below_zeros}
use Rattle.words.specs.Numeral.{value, digits}
use Rattle.words.specs.NumeralLaws.{digits_value, value_append, value_zeros, digits-value_zeros}
use Rattle.fips202.specs.Sponge.{padding, padded}

abbrev pub zeros : ℕ → List ℕ
zeros n = replicate n 0

length-zeros : (n : ℕ) → length (zeros n) ≡ n
length-zeros n = length-replicate n 0

-- ---- Algorithm 9, pad10*1(x, m): a 1, then j = (-m - 2) mod x zeros, then a 1
unfoldable pub pad10*1 : ℕ → ℕ → List ℕ
pad10*1 x m = 1 ∷ (zeros ((x - (m + 2) % x) % x) ++ 1 ∷ [])

-- ---- appendix B.1: the bits of a string of bytes
unfoldable pub bits : List ℕ → List ℕ
bits [] = []
bits (b ∷ l) = digits 2 8 b ++ bits l

bits_append : (l m : List ℕ) → bits (l ++ m) ≡ bits l ++ bits m
unfolding bits
bits_append [] m = refl
bits_append (b ∷ l) m = rw (bits_append l m) (sym (append_assoc (digits 2 8 b) (bits l) (bits m)))

bits-zeros : (n : ℕ) → bits (zeros n) ≡ zeros (8 * n)
unfolding bits digits
bits-zeros zero = refl
bits-zeros (suc n) =
    let e : 8 + 8 * n ≡ 8 * suc n = omega arith in
    rw (bits-zeros n) (rw e at (replicate-append-replicate {A = ℕ} 8 (8 * n) 0))

-- a 1 after n zeros
value_one : (n : ℕ) → value 2 (zeros n ++ 1 ∷ []) ≡ 2 ^ n
unfolding value
value_one n = value_append 2 (zeros n) (1 ∷ []) ∙ rw (value_zeros 2 n, length-zeros n) (omega arith)

-- j after n bytes and k bits
zeros_count : (rate n k : ℕ) → 0 < rate → k ≤ 6
    → (8 * rate - (8 * n + k + 2) % (8 * rate)) % (8 * rate) ≡ 8 * suc (rate - 1 - n % rate) - (k + 2)
zeros_count rate n k h g =
    let r = n % rate in
    let l = mod-lt n h in
    let w : 8 * n + k + 2 ≡ n / rate * (8 * rate) + (8 * r + k + 2) =
    omega (arith, mul_left_comm (n / rate) 8 rate, div-add-mod' n rate) in
    rw w (go r l (dec_lt (8 * r + k + 2) (8 * rate)))
  where
    go : (r : ℕ) → r < rate → Dec (8 * r + k + 2 < 8 * rate)
        → (8 * rate - (n / rate * (8 * rate) + (8 * r + k + 2)) % (8 * rate)) % (8 * rate)
        ≡ 8 * suc (rate - 1 - r) - (k + 2)
    go r l (yes p) =
        rw (digits_mod (n / rate) p, mod-eq_of_lt {n = 8 * rate - (8 * r + k + 2)} {m = 8 * rate} (omega arith))
        (omega arith)
    go r l (no p) =
        let e : 8 * r + k + 2 ≡ 8 * rate = omega arith in
        let m = 8 * rate in
        rw (e, mul-add-mod_self_right (n / rate) m m, mod_self m, sub-zero m, mod_self m)
        (omega arith)

zeros_append : (m n : ℕ) (l : List ℕ) → zeros m ++ (zeros n ++ l) ≡ zeros (m + n) ++ l
zeros_append m n l =
    sym (append_assoc (zeros m) (zeros n) l) ∙ ap (λ (r : List ℕ). r ++ l) (replicate-append-replicate {A = ℕ} m n 0)

one : Below 2 (1 ∷ [])
one = below_cons (omega arith) (below_nil (omega arith))

-- d: the bits that a hash appends to its message, at most six of them
module _ (d : List ℕ) (b : Below 2 d) (h : length d ≤ 6) where
  abbrev start : List ℕ
  start = d ++ 1 ∷ []

  length-start : length start ≡ length d + 1
  length-start = length-append d (1 ∷ [])

  -- all in one byte
  one_byte : digits 2 8 (value 2 start + 0x80) ≡ start ++ (zeros (6 - length d) ++ 1 ∷ [])
  one_byte =
      let k = 6 - length d in
      let t : List ℕ = zeros k ++ 1 ∷ [] in
      let w : k + (length d + 1) ≡ 7 = omega arith in
      let e : length (start ++ t) ≡ 8 =
      length-append start t ∙ omega (arith, length-start, length-append (zeros k) (1 ∷ []), length-zeros k) in
      let v : value 2 (start ++ t) ≡ value 2 start + 0x80 =
      value_append 2 start t
      ∙ rw (value_one k, length-start)
      (ap (λ (x : ℕ). value 2 start + x) (sym (pow-add 2 k (length d + 1)) ∙ ap (λ (x : ℕ). 2 ^ x) w)) in
      ap₂ (digits 2) (sym e) (sym v)
      ∙ digits_value 2 (start ++ t)
      (below_append start (below_append d b one) (below_append (zeros k) (below_zeros k (omega arith)) one))

  -- the first of several
  first_byte : digits 2 8 (value 2 start) ≡ start ++ zeros (7 - length d)
  first_byte =
      let e : length start + (7 - length d) ≡ 8 = omega (arith, length-start) in
      rw e at (digits-value_zeros 2 start (7 - length d) (below_append d b one))

  padding-bits : (z : ℕ) → bits (padding (value 2 start) z) ≡ d ++ 1 ∷ (zeros (8 * suc z - (length d + 2)) ++ 1 ∷ [])
  unfolding bits digits
  padding-bits zero =
      let w : 6 - length d ≡ 8 * 1 - (length d + 2) = omega arith in
      append-nil (digits 2 8 (value 2 start + 0x80)) ∙ one_byte ∙ rw w (append_snoc d 1 _)
  padding-bits (suc z) =
      let w : 7 - length d + (8 * z + 7) ≡ 8 * suc (suc z) - (length d + 2) = omega arith in
      ap₂ (λ (l m : List ℕ). l ++ m) first_byte
      (bits_append (zeros z) (0x80 ∷ []) ∙ ap (λ (l : List ℕ). l ++ (zeros 7 ++ 1 ∷ [])) (bits-zeros z))
      ∙ append_assoc start (zeros (7 - length d)) _
      ∙ ap (λ (l : List ℕ). start ++ l)
      (ap (λ (l : List ℕ). zeros (7 - length d) ++ l) (zeros_append (8 * z) 7 (1 ∷ []))
      ∙ zeros_append (7 - length d) (8 * z + 7) (1 ∷ []))
      ∙ rw w (append_snoc d 1 _)

  -- the suffix byte is d and pad10*1's first bit
  padded-bits : (rate : ℕ) (m : List ℕ) → 0 < rate
      → bits (padded rate (value 2 start) m) ≡ bits m ++ (d ++ pad10*1 (8 * rate) (8 * length m + length d))
  unfolding padded pad10*1
  padded-bits rate m p =
      bits_append m (padding (value 2 start) (rate - 1 - length m % rate))
      ∙ rw (zeros_count rate (length m) (length d) p h)
      (ap (λ (l : List ℕ). bits m ++ l) (padding-bits (rate - 1 - length m % rate)))

-- ---- section 6.1: M || 01
pub sha3_padded : (rate : ℕ) (m : List ℕ) → 0 < rate
    → bits (padded rate 0x06 m) ≡ bits m ++ ((0 ∷ 1 ∷ []) ++ pad10*1 (8 * rate) (8 * length m + 2))
unfolding value
sha3_padded rate m p = padded-bits (0 ∷ 1 ∷ []) (below_cons (omega arith) one) (omega arith) rate m p

-- ---- section 6.2: M || 1111
pub shake_padded : (rate : ℕ) (m : List ℕ) → 0 < rate
    → bits (padded rate 0x1f m) ≡ bits m ++ ((1 ∷ 1 ∷ 1 ∷ 1 ∷ []) ++ pad10*1 (8 * rate) (8 * length m + 4))
unfolding value
shake_padded rate m p = padded-bits (1 ∷ 1 ∷ 1 ∷ 1 ∷ []) (below_append (1 ∷ 1 ∷ []) two two) (omega arith) rate m p
  where
    two : Below 2 (1 ∷ 1 ∷ [])
    two = below_cons (omega arith) one
