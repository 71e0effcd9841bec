-- A product is added to s pair by pair: what the calls on one pair leave, and the loop over all of them, in which the
-- pairs done are those of the sum and the others are still as they were.
use mathlib.Core.Path.{◌≡◌, sym, ap, ap₂, ◌∙◌}
use mathlib.Core.List.{List}
use Prim.Native.Nat.{ℕ, ◌+◌, ◌*◌, ◌%◌, ◌<◌, ◌≤◌}
use native.Mathlib.Omega.{arith}
use lib.ListN.{length, get_or, set}
use Rattle.words.specs.Residue.{q}
use Rattle.words.specs.Tab.{tab}
use Rattle.words.specs.Fill.{Replaced, replaced_start, replaced_turn, replaced_end}
use Rattle.ring.specs.Polynomial.{add}
use Rattle.ring.specs.Sum.{add_mul_mod}
use Rattle.transform.specs.Transform.{gamma, multiply_ntts}
use Rattle.transform.specs.MultiplyLaws.{add_pair, get_or-multiply_ntts_even, get_or-multiply_ntts_odd}

-- t is b1 γ, reduced before a1 multiplies it, which changes nothing modulo q; x and y are stored
pub pair_calls : (s f g : List ℕ) (i : ℕ) {z t x y : ℕ} → z ≡ gamma i → t ≡ get_or g (2 * i + 1) 0 * z % q
    → x ≡ (get_or s (2 * i) 0 + (get_or f (2 * i) 0 * get_or g (2 * i) 0 + get_or f (2 * i + 1) 0 * t) % q) % q
    → y
    ≡ (get_or s (2 * i + 1) 0
    + (get_or f (2 * i) 0 * get_or g (2 * i + 1) 0 + get_or f (2 * i + 1) 0 * get_or g (2 * i) 0) % q)
    % q
    → set (set s (2 * i) x) (2 * i + 1) y ≡ add_pair f g i s
pair_calls s f g i ez et ex ey =
    let u = get_or f (2 * i) 0 * get_or g (2 * i) 0 in
    let a1 = get_or f (2 * i + 1) 0 in
    let b1 = get_or g (2 * i + 1) 0 in
    let regrouped : u + a1 * (b1 * gamma i) ≡ u + a1 * b1 * gamma i = omega arith in
    ap₂ (λ (m n : ℕ). set (set s (2 * i) m) (2 * i + 1) n)
    (ex
    ∙ ap (λ (n : ℕ). (get_or s (2 * i) 0 + n) % q)
    (ap (λ (n : ℕ). (u + a1 * n) % q) (et ∙ ap (λ (c : ℕ). b1 * c % q) ez)
    ∙ add_mul_mod u a1 (b1 * gamma i)
    ∙ ap (λ (n : ℕ). n % q) regrouped))
    ey

-- coefficient k of s + f g
abbrev sum_at : List ℕ → List ℕ → List ℕ → ℕ → ℕ
sum_at s f g k = (get_or s k 0 + get_or (multiply_ntts f g) k 0) % q

-- the first i pairs of f g are added to s₀, which has become s
pub record Added (f g s₀ : List ℕ) (i : ℕ) (s : List ℕ) : Type 0 where
  pub replaced : Replaced 256 (sum_at s₀ f g) 0 s₀ (2 * i) s

module _ {f g s₀ : List ℕ} where
  pub added_start : length s₀ ≡ 256 → Added f g s₀ 0 s₀
  added_start h = record { replaced = replaced_start h }

  pub added_turn : {i : ℕ} {s : List ℕ} → Added f g s₀ i s → i < 128 → Added f g s₀ (i + 1) (add_pair f g i s)
  added_turn {i} {s} a h =
      let r = a.replaced in
      let e : 2 * (i + 1) ≡ 2 * i + 1 + 1 = omega arith in
      let even = get_or-multiply_ntts_even f g i h in
      let odd = get_or-multiply_ntts_odd f g i h in
      record {
        replaced = rw e
            (replaced_turn
            (replaced_turn r (omega arith) (ap₂ (λ (x y : ℕ). (x + y) % q) (r.rest (2 * i) (omega arith)) (sym even)))
            (omega arith)
            (ap₂ (λ (x y : ℕ). (x + y) % q) (r.rest (2 * i + 1) (omega arith)) (sym odd)));
      }

  pub added_end : {i : ℕ} {s : List ℕ} → Added f g s₀ i s → length s₀ ≡ 256 → 128 ≤ i → s ≡ add s₀ (multiply_ntts f g)
  unfolding add
  added_end a e h = replaced_end a.replaced (omega arith) ∙ ap (λ (n : ℕ). tab n (sum_at s₀ f g)) (sym e)
