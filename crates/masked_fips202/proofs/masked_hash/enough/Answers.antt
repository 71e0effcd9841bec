-- Remainder and quotient of n by 600 decide the same as 25 and the product, which could wrap.
use Prim.Native.Nat.{ℕ, ◌/◌, ◌%◌}
use mathlib.Core.Path.{◌≡◌, refl, sym, ◌∙◌}
use mathlib.Core.Bool.{Bool, true, false}
use borrow.Author.Tests.{eq-eqb, ne_eqb, eqb-true}
use native.Mathlib.Omega.{arith}
use lib.Dec.{eqb}
use Rattle.std.proofs.Common.{true≢false}
use Rattle.masked_sponge.specs.MaskedSponge.{hash_mask_words}
use Rattle.masked_fips202.proofs.masked_hash.enough.Goals as goal

-- where the remainder is 25, by the quotient
decided : (n k : ℕ) → n % 600 ≡ 25 → eqb (n / 600) k ≡ eqb n (hash_mask_words k)
decided n k h = go (eqb (n / 600) k) refl
  where
    go : (b : Bool) → eqb (n / 600) k ≡ b → b ≡ eqb n (hash_mask_words k)
    go true e = let q : n / 600 ≡ k = eqb-true _ _ e in sym (eq-eqb n (hash_mask_words k) (omega arith))
    go false e =
        sym
        (ne_eqb n (hash_mask_words k)
        (λ m. let q : n / 600 ≡ k = omega arith in true≢false (sym (eq-eqb _ _ q) ∙ e)))

pub returns-then-n-eq25 : goal.returns-then-n-eq25
returns-then-n-eq25 c = let a = c.args in decided a.n a.permutations c.if-n-eq25.true

pub returns-else-n-eq25 : goal.returns-else-n-eq25
returns-else-n-eq25 c =
    let a = c.args in
    ne_eqb _ 25 c.if-n-eq25.false
    ∙ sym (ne_eqb a.n (hash_mask_words a.permutations) (λ e. c.if-n-eq25.false (omega arith)))
