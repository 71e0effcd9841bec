-- What the loops of Algorithms 9 and 10 share: a block goes by pairs, and a layer by blocks with one entry of the
-- roots' table each. What a pair does, and which entry a block takes, is left open.
use mathlib.Core.Path.{◌≡◌, refl, ap, ◌∙◌}
use mathlib.Core.List.{List}
use Prim.Native.Nat.{ℕ, ◌+◌, ◌-◌, ◌*◌, ◌<◌, ◌≤◌}
use native.Mathlib.Nat.{mul-le-mul_right}
use native.Mathlib.Omega.{arith}
use lib.ListN.{length, get_or}
use Rattle.words.specs.Residue.{q}
use Rattle.words.specs.TabLaws.{tabulated_length}
use Rattle.words.specs.IterateLaws.{Reached, reached_start, reached_turn, reached_end}
use Rattle.transform.specs.Transform.{zeta, butterfly, block, layer, inverse_butterfly, inverse_block, inverse_layer}
use Rattle.transform.specs.Lent.{LayerInput}
use Rattle.transform.specs.Passes.{pairs, blocks}
use Rattle.transform.proofs.Powers.{root, root_below}

-- f₀ has become f by j of the len pairs of one block
pub record Paired (pair : ℕ → ℕ → ℕ → List ℕ → List ℕ) (z len start : ℕ) (f₀ : List ℕ) (j : ℕ)
    (f : List ℕ) : Type 0 where
  pub long : length f ≡ length f₀
  pub reached : Reached len (λ j. pair z len (start + j)) f₀ j f

module _ {pair : ℕ → ℕ → ℕ → List ℕ → List ℕ} {z len start : ℕ} where
  pub paired-start : {f : List ℕ} → Paired pair z len start f 0 f
  paired-start = record { long = refl; reached = reached_start }

  pub paired_turn : {f₀ f f' : List ℕ} {j : ℕ} → Paired pair z len start f₀ j f → j < len → length f' ≡ length f
      → f' ≡ pair z len (start + j) f → Paired pair z len start f₀ (j + 1) f'
  paired_turn p h l e = record { long = l ∙ p.long; reached = reached_turn p.reached h e }

  pub paired_end : {f₀ f : List ℕ} {j : ℕ} → Paired pair z len start f₀ j f → len ≤ j → f ≡ pairs pair z len start f₀
  paired_end p h = reached_end p.reached h

-- f₀ has become f by b of the k blocks of one layer, block b with the table's entry number `entry k b`
pub record Layered (pair : ℕ → ℕ → ℕ → List ℕ → List ℕ) (entry : ℕ → ℕ → ℕ) (zetas : List ℕ) (k len : ℕ)
    (f₀ : List ℕ) (b : ℕ) (f : List ℕ) : Type 0 where
  pub input : LayerInput f₀ zetas k len
  pub entries : length zetas ≡ 128
  pub long : length f ≡ length f₀
  pub reached : Reached k (λ b. pairs pair (zeta (entry k b)) len (b * (2 * len))) f₀ b f

module _ {pair : ℕ → ℕ → ℕ → List ℕ → List ℕ} {entry : ℕ → ℕ → ℕ} {zetas : List ℕ} {k len : ℕ} where
  pub layered_start : {f : List ℕ} → LayerInput f zetas k len → Layered pair entry zetas k len f 0 f
  layered_start i =
      record { input = i; entries = tabulated_length 128 zeta i.table; long = refl; reached = reached_start }

  module _ {f₀ f : List ℕ} {b : ℕ} (p : Layered pair entry zetas k len f₀ b f) where
    -- block b lies within f
    pub layered_fits : b < k → b * (2 * len) + 2 * len ≤ length f
    layered_fits h = omega (arith, mul-le-mul_right (2 * len) h, p.input.blocks, p.long)

    -- and its root, with number r in the table, is below q
    pub layered_root : {r : ℕ} → r < 128 → get_or zetas r 0 < q
    layered_root {r} g = root_below p.input.table r g

    pub layered_turn : {r : ℕ} {f' : List ℕ} → b < k → r ≡ entry k b → r < 128 → length f' ≡ length f
        → f' ≡ pairs pair (get_or zetas r 0) len (b * (2 * len)) f → Layered pair entry zetas k len f₀ (b + 1) f'
    layered_turn {r} h n g l e =
        let z = root p.input.table r g ∙ ap zeta n in
        record {
          input = p.input;
          entries = p.entries;
          long = l ∙ p.long;
          reached = reached_turn p.reached h (e ∙ ap (λ (z : ℕ). pairs pair z len (b * (2 * len)) f) z);
        }

    pub layered_end : k ≤ b → f ≡ blocks pair entry k len f₀
    layered_end h = reached_end p.reached h

-- ---- the layers of Algorithm 9 and of Algorithm 10

pub layer_is : (k len : ℕ) (f : List ℕ) → blocks butterfly (λ k b. k + b) k len f ≡ layer k len f
unfolding layer block
layer_is k len f = refl

pub inverse_layer_is : (k len : ℕ) (f : List ℕ)
    → blocks inverse_butterfly (λ k b. 2 * k - 1 - b) k len f ≡ inverse_layer k len f
unfolding inverse_layer inverse_block
inverse_layer_is k len f = refl
