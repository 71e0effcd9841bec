-- The suffix is stored behind the rest of the message, and the last bit is set in the block's last byte, which is FIPS
-- 202's padding, also where both fall into one byte.
use Prim.Native.Nat.{ℕ, zero, suc, ◌-◌, ◌<◌, ◌≤◌}
use mathlib.Core.Path.{◌≡◌, refl, ap, ◌∙◌}
use mathlib.Core.List.{List, [], ◌∷◌, ◌++◌}
use borrow.Author.Rules.{rules}
use native.Mathlib.Nat.{sub-zero}
use native.Mathlib.Omega.{arith}
use lib.Bits.{bit_xor, xor_comm, xor_shifted}
use lib.ListN.{length, get_or, take, set, replicate, length-replicate, get_or-replicate}
use lib.Seq.{take-suc-set}
use Rattle.fips202.specs.Sponge.{padding}
use Rattle.fips202.proofs.absorb.last_block.Goals as goal

take-replicate : (k n : ℕ) → k ≤ n → take {A = ℕ} k (replicate n 0) ≡ replicate k 0
take-replicate zero n h = refl
take-replicate (suc k) zero h = absurd (omega arith)
take-replicate (suc k) (suc n) h = ap (λ (l : List ℕ). 0 ∷ l) (take-replicate k n (omega arith))

-- what the two last stores leave in the first r of n zeros after p
abbrev stored : ℕ → List ℕ → List ℕ → ℕ → List ℕ
stored s p b r = let l = set b (length p) s in take r (set l (r - 1) (bit_xor (get_or l (r - 1) 0) 0x80))

-- in one byte both stores meet, else they are apart
stores-padding : (s n z : ℕ) → s < 128 → z < n → stored s [] (replicate n 0) (suc z) ≡ padding s z
stores-padding s zero z h k = absurd (omega arith)
stores-padding s (suc n) zero h k = ap (λ (x : ℕ). x ∷ []) (xor_comm s 0x80 ∙ xor_shifted 1 7 s h ∙ omega arith)
stores-padding s (suc n) (suc z) h k =
    let w : suc (suc z) - 1 ≡ suc z = omega arith in
    rw (w, get_or-replicate {A = ℕ} n z 0 0 (omega arith))
    (ap (λ (l : List ℕ). s ∷ l) (take-suc-set (replicate n 0) z 0x80 (rw (length-replicate {A = ℕ} n 0) (omega arith))
    ∙ rw (take-replicate z n (omega arith))))

stores : (s n r : ℕ) (p : List ℕ) → s < 128 → length p < r → r ≤ n
    → stored s p (p ++ replicate (n - length p) 0) r ≡ p ++ padding s (r - 1 - length p)
stores s n zero [] h g k = absurd (omega arith)
stores s n (suc z) [] h g k =
    let a : suc z - 1 - 0 ≡ z = omega arith in
    rw (sub-zero n, a) (stores-padding s n z h (omega arith))
stores s n zero (x ∷ p) h g k = absurd (omega arith)
stores s n (suc zero) (x ∷ p) h g k = absurd (omega arith)
stores s zero (suc (suc r)) (x ∷ p) h g k = absurd (omega arith)
stores s (suc n) (suc (suc r)) (x ∷ p) h g k =
    let a : suc n - suc (length p) ≡ n - length p = omega arith in
    let b : suc (suc r) - 1 - suc (length p) ≡ r - length p = omega arith in
    let d : suc (suc r) - 1 ≡ suc r = omega arith in
    let e : suc r - 1 ≡ r = omega arith in
    rw (a, b, d) (ap (λ (l : List ℕ). x ∷ l) (rw e at (stores s n (suc r) p h (omega arith) (omega arith))))

pub returns : goal.returns
returns c =
    let a = c.args in
    rw c.zero_filled-b.ensures
    (stores a.suffix 200 a.rate a.p.now (search rules) (search rules) (search rules))
