-- Selection: what it joins to.
use Rattle.std.specs.Prelude.{ℕ, zero, suc, ◌-◌, ◌*◌, ◌^◌, ◌<◌, ◌≡◌, cond, [], ◌∷◌}
use Rattle.std.proofs.Common.{ap, ◌∙◌, arith}
use Rattle.words.specs.Word.{xor, and, ones}
use Rattle.words.specs.Bits.{Bits}
use Rattle.words.specs.WordLaws.{xor_same, xor_zero, zero_xor, xor-bits, and_comm, and-ones}
use Rattle.words.specs.Formula.{boole, at, ◌⊕◌}
use Rattle.worksheet.specs.Shares.{Shares}
use Rattle.worksheet.specs.Gives.{Gives, gives_bind, gives_weaken}
use Rattle.worksheet.specs.SharingLaws.{Sharing, sharing-bits}
use Rattle.worksheet.specs.GatesSharing.{sharing-masked_xor, sharing-masked_and}
use Rattle.masked_comparison.specs.Comparison.{copies, select}
use Rattle.masked_comparison.specs.ComparisonLaws.{is_zero, and_zero}

pub copies_bits : {x : ℕ} → Bits 1 x → Bits 64 (x * (2 ^ 64 - 1))
copies_bits a = let h = a.lt in record { lt = omega arith }

xor_copies : (x y : ℕ) → x < 2 → y < 2 → xor (x * (2 ^ 64 - 1)) (y * (2 ^ 64 - 1)) ≡ xor x y * (2 ^ 64 - 1)
xor_copies zero y h g = rw (zero_xor y) (zero_xor (y * (2 ^ 64 - 1)))
xor_copies (suc zero) zero h g = rw (xor_zero 1) (xor_zero (2 ^ 64 - 1))
xor_copies (suc zero) (suc zero) h g = rw (xor_same 1) (xor_same (2 ^ 64 - 1))
xor_copies (suc zero) (suc (suc y)) h g = absurd (omega arith)
xor_copies (suc (suc x)) y h g = absurd (omega arith)

sharing-copies : {B : ℕ} {b : Shares} → Sharing 1 B b → Sharing 64 (B * (2 ^ 64 - 1)) (copies b)
unfolding copies
sharing-copies {b = b} s =
    record {
      bits0 = copies_bits s.bits0;
      bits1 = copies_bits s.bits1;
      joins = xor_copies b.s0 b.s1 s.bits0.lt s.bits1.lt ∙ ap (λ (x : ℕ). x * (2 ^ 64 - 1)) s.joins;
    }

selected : (B X Y : ℕ) → Bits 1 B → Bits 64 X → Bits 64 Y
    → xor Y (and (B * (2 ^ 64 - 1)) (xor X Y)) ≡ cond (is_zero B) Y X
unfolding ones
selected zero X Y a p r = ap (xor Y) (and_comm 0 (xor X Y) ∙ and_zero (xor X Y)) ∙ xor_zero Y
selected (suc zero) X Y a p r =
    ap (xor Y) (and_comm (2 ^ 64 - 1) (xor X Y) ∙ and-ones (xor-bits p r))
    ∙ boole (at 1 ⊕ (at 0 ⊕ at 1)) (at 0) (X ∷ Y ∷ []) tt
selected (suc (suc B)) X Y a p r = absurd (omega (arith, a.lt))

-- X where the bit is 1, else Y
pub gives_select : {B X Y : ℕ} {b x y : Shares} → Sharing 1 B b → Sharing 64 X x → Sharing 64 Y y
    → Gives (Sharing 64 (cond (is_zero B) Y X)) (select b x y)
unfolding select
gives_select {B} {X} {Y} s p r =
    gives_bind (sharing-masked_xor p r) (λ d e.
    gives_bind (sharing-masked_and (sharing-copies s) e) (λ z f.
    gives_weaken (λ o g. rw (selected B X Y (sharing-bits s) (sharing-bits p) (sharing-bits r)) at g)
    (sharing-masked_xor r f)))
