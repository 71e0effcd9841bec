-- The laws of rotation, for every width n and every number of places k up to n.
use Rattle.std.specs.Prelude.{◌≡◌, ℕ, zero, suc, ◌+◌, ◌-◌, ◌*◌, ◌/◌, ◌%◌, ◌^◌, ◌<◌, ◌≤◌}
use Rattle.std.proofs.Math.Path.{sym, ap, ap₂}
use Rattle.std.proofs.Common.{◌∙◌, subst, add-zero, mul-one, div-one, mod-lt, mod-eq_of_lt, shr_lt, pow-add, pow_pos}
use Rattle.std.proofs.Math.Nat.{mul-mod_left, sub-zero, mod_self, div-eq_of_lt}
use native.Mathlib.Omega.{arith}
use Rattle.std.proofs.Math.Arith.{digits_lt}
use Rattle.std.proofs.lemmas.Nat.{mod-pow-add, shl-shr, or_shifted, xor_block, xor_mod, xor_shr}
use Rattle.std.proofs.Math.Pow.{high, low, split}
use Rattle.std.specs.Int.Bits.{bit_or, or_self}
use Rattle.words.specs.Word.{xor, rotl}
use Rattle.words.specs.Bits.{Bits}
use Rattle.words.specs.WordLaws.{zero_bits, xor_same, xor_zero}

-- the two parts of x, of j and k bits, exchanged
abbrev exchanged : ℕ → ℕ → ℕ → ℕ
exchanged x j k = x % 2 ^ j * 2 ^ k + x / 2 ^ j

shl_mod : (x j k : ℕ) → x * 2 ^ k % 2 ^ (j + k) ≡ x % 2 ^ j * 2 ^ k
shl_mod x j k = rw (mod-pow-add (x * 2 ^ k) j k, shl-shr x k, mul-mod_left x (2 ^ k)) (add-zero _)

module _ (n x k : ℕ) (h : k ≤ n) where
  rotl-exchanged : rotl n x k ≡ exchanged x (n - k) k
  unfolding rotl
  rotl-exchanged =
      let e : n - k + k ≡ n = omega arith in
      ap (λ (t : ℕ). t + x / 2 ^ (n - k)) (rw e at (shl_mod x (n - k) k))

  high_lt : Bits n x → x / 2 ^ (n - k) < 2 ^ k
  high_lt a =
      let e : k + (n - k) ≡ n = omega arith in
      shr_lt k (n - k) (subst (λ (m : ℕ). x < 2 ^ m) (sym e) a.lt)

  pub rotl-bits : Bits n x → Bits n (rotl n x k)
  rotl-bits a =
      let e : n - k + k ≡ n = omega arith in
      record {
        lt = rw rotl-exchanged
            (subst (λ (t : ℕ). exchanged x (n - k) k < t) (sym (pow-add 2 (n - k) k) ∙ ap (λ (m : ℕ). 2 ^ m) e)
            (digits_lt (mod-lt x (pow_pos (n - k))) (high_lt a)));
      }

module _ {n : ℕ} (k : ℕ) (h : k ≤ n) where
  pub rotl-xor : {x y : ℕ} → Bits n x → Bits n y → rotl n (xor x y) k ≡ xor (rotl n x k) (rotl n y k)
  unfolding xor
  rotl-xor {x} {y} a b =
      let j = n - k in
      rotl-exchanged n (xor x y) k h
      ∙ ap₂ (λ (s t : ℕ). s * 2 ^ k + t) (xor_mod x y j) (xor_shr x y j)
      ∙ sym (xor_block k (x % 2 ^ j) (y % 2 ^ j) (x / 2 ^ j) (y / 2 ^ j) (high_lt n x k h a) (high_lt n y k h b))
      ∙ ap₂ xor (sym (rotl-exchanged n x k h)) (sym (rotl-exchanged n y k h))

  -- rotated back
  pub rotl-rotl : {x : ℕ} → Bits n x → rotl n (rotl n x (n - k)) k ≡ x
  rotl-rotl {x} a =
      let g : n - k ≤ n = omega arith in
      let e : n - (n - k) ≡ k = omega arith in
      let lt : x / 2 ^ k < 2 ^ (n - k) = subst (λ (m : ℕ). x / 2 ^ m < 2 ^ (n - k)) e (high_lt n x (n - k) g a) in
      ap (λ (t : ℕ). rotl n t k) (rotl-exchanged n x (n - k) g ∙ ap (λ (t : ℕ). exchanged x t (n - k)) e)
      ∙ rotl-exchanged n _ k h
      ∙ ap₂ (λ (s t : ℕ). s * 2 ^ k + t) (low (x % 2 ^ k) (n - k) lt) (high (x % 2 ^ k) (n - k) lt)
      ∙ split x k

  pub rotl_zero : rotl n 0 k ≡ 0
  rotl_zero = ap (λ (t : ℕ). rotl n t k) (sym (xor_zero 0)) ∙ rotl-xor zero_bits zero_bits ∙ xor_same _

-- the language's `(x << k) | (x >> ((n - k) % n))`: at k = 0 both parts are x itself
pub rotl_or : (n x k : ℕ) → Bits n x → k < n → bit_or (x * 2 ^ k % 2 ^ n) (x / 2 ^ ((n - k) % n)) ≡ rotl n x k
unfolding rotl
rotl_or n x zero a l =
    rw (sub-zero, mod_self, mul-one x, div-one x, mod-eq_of_lt a.lt, div-eq_of_lt a.lt)
    (or_self x ∙ sym (add-zero x))
rotl_or n x (suc i) a l =
    let k = suc i in
    let e : n - k + k ≡ n = omega arith in
    let m : (n - k) % n ≡ n - k = mod-eq_of_lt (omega arith) in
    rw (m, rw e at (shl_mod x (n - k) k))
    (or_shifted (x % 2 ^ (n - k)) k (x / 2 ^ (n - k)) (high_lt n x k (omega arith) a))
