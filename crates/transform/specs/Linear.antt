-- Linear maps on polynomials of n coefficients modulo q. The transform and its inverse are linear, so that each may be
-- worked out on the shares of a polynomial one by one.
use Rattle.std.specs.Prelude.{◌≡◌, refl, List, ℕ, zero, suc, ◌+◌, ◌-◌, ◌*◌, ◌/◌, ◌%◌, ◌^◌, ◌<◌, length, get_or, set}
use Rattle.std.proofs.Common.{sym, ap, ap₂, ◌∙◌, mod-lt, div-add-mod', arith, length-set}
use Rattle.std.proofs.Math.Nat.{add-mod, mul-add-mod_self_right}
use Rattle.words.specs.Residue.{q}
use Rattle.words.specs.ResidueLaws.{mul_mod_mod}
use Rattle.words.specs.Tab.{tab}
use Rattle.words.specs.TabLaws.{length-tab, get_or-tab, tab_of}
use Rattle.words.specs.Iterate.{iterate}
use Rattle.words.specs.Bounded.{Below}
use Rattle.words.specs.BoundedLaws.{below_set, below-tab}
use Rattle.ring.specs.Polynomial.{minus, add}
use Rattle.ring.specs.Sum.{minus_mod, length-add, get_or_add, add_set}
use Rattle.transform.specs.Transform.{zeta, butterfly, block, layer, ntt}
use Rattle.transform.specs.Transform.{inverse_butterfly, inverse_block, inverse_layer, inverse_ntt}

-- F keeps the length and coefficients below q, and takes a sum to the sum of the results
pub record Linear (n : ℕ) (F : List ℕ → List ℕ) : Type 0 where
  pub long : (f : List ℕ) → length f ≡ n → length (F f) ≡ n
  pub below : (f : List ℕ) → length f ≡ n → Below q f → Below q (F f)
  pub adds : (f g : List ℕ) → length f ≡ n → length g ≡ n → F (add f g) ≡ add (F f) (F g)

-- ---- linear combinations of two numbers

pub record Combination (h : ℕ → ℕ → ℕ) : Type 0 where
  pub left : ℕ
  pub right : ℕ
  pub is : (x y : ℕ) → h x y ≡ (left * x + right * y) % q

regroup : (u v x x' y y' a b s t : ℕ) → a * q + s ≡ x + x' → b * q + t ≡ y + y'
    → (u * x + v * y) + (u * x' + v * y') ≡ (u * a + v * b) * q + (u * s + v * t)
regroup u v x x' y y' a b s t h k = omega (arith, ap (λ (n : ℕ). u * n) h, ap (λ (n : ℕ). v * n) k)

sum_of_sums : (u v x x' y y' : ℕ)
    → (u * ((x + x') % q) + v * ((y + y') % q)) % q ≡ ((u * x + v * y) % q + (u * x' + v * y') % q) % q
sum_of_sums u v x x' y y' =
    sym (mul-add-mod_self_right (u * ((x + x') / q) + v * ((y + y') / q)) q (u * ((x + x') % q) + v * ((y + y') % q)))
    ∙ ap (λ (n : ℕ). n % q)
    (sym (regroup u v x x' y y' ((x + x') / q) ((y + y') / q) ((x + x') % q) ((y + y') % q)
    (div-add-mod' (x + x') q) (div-add-mod' (y + y') q)))
    ∙ add-mod (u * x + v * y) (u * x' + v * y') q

module _ {h : ℕ → ℕ → ℕ} (c : Combination h) where
  combination_lt : (x y : ℕ) → h x y < q
  combination_lt x y = rw c.is (mod-lt _ (omega arith))

  combination_add : (x x' y y' : ℕ) → h ((x + x') % q) ((y + y') % q) ≡ (h x y + h x' y') % q
  combination_add x x' y y' =
      c.is _ _
      ∙ sum_of_sums c.left c.right x x' y y'
      ∙ ap₂ (λ (m n : ℕ). (m + n) % q) (sym (c.is x y)) (sym (c.is x' y'))

  -- of the coefficients a and b
  pub combination_at : (f g : List ℕ) (a b : ℕ) → length f ≡ length g
      → h (get_or (add f g) a 0) (get_or (add f g) b 0)
      ≡ (h (get_or f a 0) (get_or f b 0) + h (get_or g a 0) (get_or g b 0)) % q
  combination_at f g a b e = ap₂ h (get_or_add f g a e) (get_or_add f g b e) ∙ combination_add _ _ _ _

-- ---- maps made of linear maps

id_linear : {n : ℕ} → Linear n (λ f. f)
id_linear = record { long = λ f h. h; below = λ f e h. h; adds = λ f g h k. refl }

comp_linear : {n : ℕ} (F G : List ℕ → List ℕ) → Linear n F → Linear n G → Linear n (λ f. F (G f))
comp_linear F G a b =
    record {
      long = λ f h. a.long (G f) (b.long f h);
      below = λ f e h. a.below (G f) (b.long f e) (b.below f e h);
      adds = λ f g h k. ap F (b.adds f g h k) ∙ a.adds (G f) (G g) (b.long f h) (b.long g k);
    }

iterate-linear : {n : ℕ} (m : ℕ) (step : ℕ → List ℕ → List ℕ) → ((i : ℕ) → Linear n (step i))
    → Linear n (iterate m step)
unfolding iterate
iterate-linear zero step h = id_linear
iterate-linear (suc m) step h = comp_linear (step m) (iterate m step) (h m) (iterate-linear m step h)

-- linear combinations of the coefficients a and b, stored at i and at j
set-linear : {n : ℕ} {h k : ℕ → ℕ → ℕ} (i j a b : ℕ) → Combination h → Combination k
    → Linear n (λ f. set (set f i (h (get_or f a 0) (get_or f b 0))) j (k (get_or f a 0) (get_or f b 0)))
set-linear i j a b c d =
    record {
      long = λ f e. simp length-set e;
      below = λ f e h. below_set _ j (combination_lt d _ _) (below_set f i (combination_lt c _ _) h);
      adds = λ f g e e'.
          let w = e ∙ sym e' in
          ap₂ (λ (m : List ℕ) (x : ℕ). set m j x)
          (ap (λ (x : ℕ). set (add f g) i x) (combination_at c f g a b w) ∙ sym (add_set f g i _ _ w))
          (combination_at d f g a b w)
          ∙ sym (add_set (set f i _) (set g i _) j _ _ (length-set f i _ ∙ w ∙ sym (length-set g i _)));
    }

-- each coefficient times z
scale_linear : (n z : ℕ) → Linear n (λ f. tab n (λ i. get_or f i 0 * z % q))
scale_linear n z =
    record {
      long = λ f e. length-tab n (scaled f);
      below = λ f e h. below-tab n (omega arith) (λ i g. mod-lt _ (omega arith));
      adds = λ f g e e'.
          sym
          (tab_of 0 (add (tab n (scaled f)) (tab n (scaled g))) n (length-add _ _ ∙ length-tab n (scaled f))
          (λ i h.
          get_or_add (tab n (scaled f)) (tab n (scaled g)) i (length-tab n (scaled f) ∙ sym (length-tab n (scaled g)))
          ∙ ap₂ (λ (x y : ℕ). (x + y) % q) (get_or-tab n (scaled f) i 0 h) (get_or-tab n (scaled g) i 0 h)
          ∙ sym (combination_at times_z f g i i (e ∙ sym e'))));
    }
  where
    scaled : List ℕ → ℕ → ℕ
    scaled f i = get_or f i 0 * z % q

    times_z : Combination (λ x y. x * z % q)
    times_z = record { left = z; right = 0; is = λ x y. ap (λ (m : ℕ). m % q) (omega arith) }

-- ---- Algorithms 9 and 10

-- seven layers of blocks of pairs: what the transform and its inverse share
layers_linear : {n : ℕ} (pair : ℕ → ℕ → ℕ → List ℕ → List ℕ) (k len : ℕ → ℕ) (entry : ℕ → ℕ → ℕ)
    → ((z len j : ℕ) → Linear n (pair z len j))
    → Linear n
    (iterate 7 (λ l.
    iterate (k l) (λ b. iterate (len l) (λ j. pair (zeta (entry l b)) (len l) (b * (2 * len l) + j)))))
layers_linear pair k len entry h =
    iterate-linear 7 _ (λ l.
    iterate-linear (k l) _ (λ b.
    iterate-linear (len l) _ (λ j. h (zeta (entry l b)) (len l) (b * (2 * len l) + j))))

-- the butterfly's two results
plus_twisted : (z : ℕ) → Combination (λ x y. (x + z * y % q) % q)
plus_twisted z = record { left = 1; right = z; is = λ x y. omega arith }

minus_twisted : (z : ℕ) → Combination (λ x y. minus x (z * y % q))
minus_twisted z =
    record {
      left = 1;
      right = (q - 1) * z;
      is = λ x y. minus_mod x (z * y) ∙ ap (λ (n : ℕ). n % q) (omega arith);
    }

butterfly-linear : {n : ℕ} (z len j : ℕ) → Linear n (butterfly z len j)
unfolding butterfly
butterfly-linear z len j = set-linear (j + len) j j (j + len) (minus_twisted z) (plus_twisted z)

pub ntt-linear : {n : ℕ} → Linear n ntt
unfolding block layer ntt
ntt-linear = layers_linear butterfly (λ l. 2 ^ l) (λ l. 2 ^ (7 - l)) (λ l b. 2 ^ l + b) butterfly-linear

-- the inverse's
plus : Combination (λ x y. (x + y) % q)
plus = record { left = 1; right = 1; is = λ x y. omega arith }

twisted_minus : (z : ℕ) → Combination (λ x y. z * minus y x % q)
twisted_minus z =
    record {
      left = z * (q - 1);
      right = z;
      is = λ x y. mul_mod_mod z (y + (q - 1) * x) q ∙ ap (λ (n : ℕ). n % q) (omega arith);
    }

inverse_butterfly-linear : {n : ℕ} (z len j : ℕ) → Linear n (inverse_butterfly z len j)
unfolding inverse_butterfly
inverse_butterfly-linear z len j = set-linear j (j + len) j (j + len) plus (twisted_minus z)

pub inverse_ntt-linear : Linear 256 inverse_ntt
unfolding inverse_block inverse_layer inverse_ntt
inverse_ntt-linear =
    comp_linear (λ f. tab 256 (λ i. get_or f i 0 * 3303 % q)) _ (scale_linear 256 3303)
    (layers_linear inverse_butterfly (λ l. 2 ^ (6 - l)) (λ l. 2 ^ (l + 1)) (λ l b. 2 * 2 ^ (6 - l) - 1 - b)
    inverse_butterfly-linear)

-- whatever is transformed back, the result is a polynomial
pub length-inverse_ntt : (f : List ℕ) → length (inverse_ntt f) ≡ 256
unfolding inverse_ntt
length-inverse_ntt f = length-tab 256 _
