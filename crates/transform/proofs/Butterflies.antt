-- What the calls on one pair leave, in Algorithm 9 and in Algorithm 10: the code works on remainders, and modulo q
-- sums, differences and products are the same for a number and for its remainder.
use mathlib.Core.Path.{◌≡◌, sym, ap, ap₂, ◌∙◌}
use mathlib.Core.List.{List}
use Prim.Native.Nat.{ℕ, ◌+◌, ◌-◌, ◌*◌, ◌%◌, ◌<◌}
use native.Mathlib.Nat.{add-mod, mod-add-mod, mod-lt}
use native.Mathlib.Omega.{arith}
use lib.ListN.{get_or, set}
use Rattle.words.specs.Residue.{q}
use Rattle.words.specs.ResidueLaws.{mul_mod_mod}
use Rattle.ring.specs.Polynomial.{minus}
use Rattle.ring.specs.Sum.{minus_mod}
use Rattle.transform.specs.Transform.{butterfly, inverse_butterfly}

module _ (f : List ℕ) (z len j : ℕ) where
  -- a is f[j] and t is z f[j + len]; the difference u and the sum v are stored
  pub butterfly_calls : {a t u v : ℕ} → a ≡ get_or f j 0 % q → t ≡ z * get_or f (j + len) 0 % q → u ≡ minus a t
      → v ≡ (a + t) % q → set (set f (j + len) u) j v ≡ butterfly z len j f
  unfolding butterfly
  butterfly_calls ea et eu ev =
      let x = get_or f j 0 in
      let y = z * get_or f (j + len) 0 % q in
      ap₂ (λ (m n : ℕ). set (set f (j + len) m) j n)
      (eu ∙ ap₂ minus ea et ∙ mod-add-mod x q ((q - 1) * y))
      (ev ∙ ap₂ (λ (m n : ℕ). (m + n) % q) ea et ∙ mod-add-mod x q y)

  -- a is f[j] and b is f[j + len]; the sum u is stored, and v, which is z times the difference; q is added to it, so
  -- that it is not negative
  pub inverse_butterfly_calls : {a b u v : ℕ} → a ≡ get_or f j 0 % q → b ≡ get_or f (j + len) 0 % q → u ≡ (a + b) % q
      → v ≡ z * (b + 3329 - a) % q → set (set f j u) (j + len) v ≡ inverse_butterfly z len j f
  unfolding inverse_butterfly
  inverse_butterfly_calls {a} {b} ea eb eu ev =
      let x = get_or f j 0 in
      let y = get_or f (j + len) 0 in
      let la : a < q = rw ea (mod-lt x (omega arith)) in
      let lb : b < q = rw eb (mod-lt y (omega arith)) in
      let small : (b + 3329 - a) % q ≡ minus b a = omega arith in
      let difference = small ∙ ap₂ minus eb ea ∙ mod-add-mod y q ((q - 1) * (x % q)) ∙ minus_mod y x in
      ap₂ (λ (m n : ℕ). set (set f j m) (j + len) n)
      (eu ∙ ap₂ (λ (m n : ℕ). (m + n) % q) ea eb ∙ sym (add-mod x y q))
      (ev ∙ sym (mul_mod_mod z (b + 3329 - a) q) ∙ ap (λ (t : ℕ). z * t % q) difference)
