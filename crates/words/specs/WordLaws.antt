-- The laws of xor, and and complement: identities, widths, and what stands for the language's own operators.
use Rattle.std.specs.Prelude.{◌≡◌, [], ◌∷◌, ℕ, ◌+◌, ◌-◌, ◌*◌, ◌/◌, ◌^◌, ◌≤◌}
use Rattle.std.proofs.Common.{◌∙◌, subst, mod-eq_of_lt, mod-lt, lt_of_lt_of_le, arith, pow_pos, pow_mono, shr_lt}
use Rattle.std.proofs.Math.Pow.{ones_lt}
use Rattle.std.specs.Int.Bits.{bit_xor, bit_and, and_lt, xor_self, xor_zero_r, xor_zero_l, xor_add_and}
use Rattle.std.proofs.lemmas.Nat.{xor_lt, and_mask, xor_mod, xor_shr, and_shr}
use Rattle.words.specs.Word.{xor, and, ones, complement, low}
use Rattle.words.specs.Bits.{Bits, or}
use Rattle.words.specs.Formula.{boole, at, ◌⊕◌, ◌⊗◌}

-- ---- identities

pub xor_comm : (a b : ℕ) → xor a b ≡ xor b a
xor_comm a b = boole (at 0 ⊕ at 1) (at 1 ⊕ at 0) (a ∷ b ∷ []) tt

pub xor_assoc : (a b c : ℕ) → xor (xor a b) c ≡ xor a (xor b c)
xor_assoc a b c = boole ((at 0 ⊕ at 1) ⊕ at 2) (at 0 ⊕ (at 1 ⊕ at 2)) (a ∷ b ∷ c ∷ []) tt

pub xor_right_comm : (a b c : ℕ) → xor (xor a b) c ≡ xor (xor a c) b
xor_right_comm a b c = boole (at 0 ⊕ at 1 ⊕ at 2) (at 0 ⊕ at 2 ⊕ at 1) (a ∷ b ∷ c ∷ []) tt

pub xor_same : (a : ℕ) → xor a a ≡ 0
unfolding xor
xor_same a = xor_self a

pub xor_zero : (a : ℕ) → xor a 0 ≡ a
unfolding xor
xor_zero a = xor_zero_r a

pub zero_xor : (a : ℕ) → xor 0 a ≡ a
unfolding xor
zero_xor a = xor_zero_l a

pub xor-xor_cancel : (a b : ℕ) → xor (xor a b) b ≡ a
xor-xor_cancel a b = boole (at 0 ⊕ at 1 ⊕ at 1) (at 0) (a ∷ b ∷ []) tt

pub xor_cancel : (a b : ℕ) → xor a (xor a b) ≡ b
xor_cancel a b = boole (at 0 ⊕ (at 0 ⊕ at 1)) (at 1) (a ∷ b ∷ []) tt

-- sums of two, regrouped
pub xor_swap : (a b c d : ℕ) → xor (xor a b) (xor c d) ≡ xor (xor a c) (xor b d)
xor_swap a b c d = boole ((at 0 ⊕ at 1) ⊕ (at 2 ⊕ at 3)) ((at 0 ⊕ at 2) ⊕ (at 1 ⊕ at 3)) (a ∷ b ∷ c ∷ d ∷ []) tt

pub and_comm : (a b : ℕ) → and a b ≡ and b a
and_comm a b = boole (at 0 ⊗ at 1) (at 1 ⊗ at 0) (a ∷ b ∷ []) tt

-- the complement of one of two shares is the complement of what they join to
pub complement-xor : (n a b : ℕ) → xor (complement n a) b ≡ complement n (xor a b)
unfolding complement
complement-xor n a b = boole (at 0 ⊕ at 2 ⊕ at 1) (at 0 ⊕ at 1 ⊕ at 2) (a ∷ b ∷ ones n ∷ []) tt

-- ---- widths

pub xor-bits : {n x y : ℕ} → Bits n x → Bits n y → Bits n (xor x y)
unfolding xor
xor-bits {n} {x} {y} a b = record { lt = xor_lt n x y a.lt b.lt }

pub and-bits : {n x y : ℕ} → Bits n x → Bits n y → Bits n (and x y)
unfolding and
and-bits {n} {x} {y} a b = record { lt = and_lt n x y a.lt b.lt }

pub zero_bits : {n : ℕ} → Bits n 0
zero_bits {n} = record { lt = pow_pos n }

ones-bits : {n : ℕ} → Bits n (ones n)
unfolding ones
ones-bits {n} = record { lt = ones_lt n }

pub complement-bits : {n x : ℕ} → Bits n x → Bits n (complement n x)
unfolding complement
complement-bits a = xor-bits a ones-bits

pub or-bits : {n x y : ℕ} → Bits n x → Bits n y → Bits n (or n x y)
unfolding or
or-bits a b = complement-bits (and-bits (complement-bits a) (complement-bits b))

pub low_bits : {n : ℕ} (x : ℕ) → Bits n (low n x)
unfolding low
low_bits {n} x = record { lt = mod-lt x (pow_pos n) }

pub bits_mono : {m n x : ℕ} → m ≤ n → Bits m x → Bits n x
bits_mono h a = record { lt = lt_of_lt_of_le a.lt (pow_mono h) }

-- a word of k + n bits, cut above its n lowest
pub high_bits : {k x : ℕ} (n : ℕ) → Bits (k + n) x → Bits k (x / 2 ^ n)
high_bits {k} n a = record { lt = shr_lt k n a.lt }

-- ---- parts of a word

pub low_of_bits : {n x : ℕ} → Bits n x → low n x ≡ x
unfolding low
low_of_bits a = mod-eq_of_lt a.lt

pub low-xor : (n x y : ℕ) → low n (xor x y) ≡ xor (low n x) (low n y)
unfolding low xor
low-xor n x y = xor_mod x y n

pub xor_shift : (n x y : ℕ) → xor x y / 2 ^ n ≡ xor (x / 2 ^ n) (y / 2 ^ n)
unfolding xor
xor_shift n x y = xor_shr x y n

pub and_shift : (n x y : ℕ) → and x y / 2 ^ n ≡ and (x / 2 ^ n) (y / 2 ^ n)
unfolding and
and_shift n x y = and_shr x y n

pub and-ones : {n x : ℕ} → Bits n x → and x (ones n) ≡ x
unfolding and ones
and-ones {n} {x} a = and_mask x n ∙ mod-eq_of_lt a.lt

-- the language's `!x`
pub complement_sub : {n x : ℕ} → Bits n x → complement n x ≡ 2 ^ n - 1 - x
unfolding complement xor ones
complement_sub {n} {x} a =
    let s = xor_add_and x (2 ^ n - 1) in
    let m : bit_and x (2 ^ n - 1) ≡ x = and_mask x n ∙ mod-eq_of_lt a.lt in
    let t : bit_xor x (2 ^ n - 1) + x * 2 ≡ x + (2 ^ n - 1) =
    subst (λ (y : ℕ). bit_xor x (2 ^ n - 1) + y * 2 ≡ x + (2 ^ n - 1)) m s in
    omega arith
