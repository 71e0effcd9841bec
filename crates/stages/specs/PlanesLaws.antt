-- The words of planes: their number, and that they are words of 64 bits.
use Rattle.std.specs.Prelude.{◌≡◌, ℕ, suc, ◌+◌, ◌*◌, ◌^◌, ◌<◌, length, get_or}
use Rattle.std.proofs.Common.{◌∙◌, arith}
use mathlib.Core.List.{List, [], ◌∷◌, flatten}
use Rattle.std.proofs.Math.Decide.{dec_lt}
use Rattle.std.proofs.Math.ListN.{get_or-eq_default}
use Rattle.words.specs.Bounded.{Below}
use Rattle.words.specs.BoundedLaws.{below_nil, below_append, below-tab}
use Rattle.words.specs.PlaneLaws.{plane-bits}
use Rattle.words.specs.Tab.{tab}
use Rattle.words.specs.TabLaws.{length-tab, get_or-tab}
use Rattle.parameters.specs.declared.Parameters.{Parameters}
use Rattle.stages.specs.FlattenLaws.{length-flatten}
use Rattle.stages.specs.Worksheet.{planes_of, ciphertext_planes}

pub length-planes_of : (d : ℕ) (f : List ℕ) → length (planes_of d f) ≡ 4 * d
unfolding planes_of
length-planes_of d f = length-flatten {n = d} {k = 4} (record { long = λ g h. length-tab d _ }) ∙ omega arith

module _ {b : ℕ} (pos : 0 < b) where
  below-flatten : (l : List (List ℕ)) → ((i : ℕ) → Below b (get_or l i [])) → Below b (flatten l)
  unfolding flatten
  below-flatten [] h = below_nil pos
  below-flatten (x ∷ l) h = below_append x (h 0) (below-flatten l (λ i. h (suc i)))

  below-flatten-tab : (n : ℕ) (f : ℕ → List ℕ) → ((i : ℕ) → Below b (f i)) → Below b (flatten (tab n f))
  below-flatten-tab n f h = below-flatten (tab n f) (λ i. go i (dec_lt i n))
    where
      go : (i : ℕ) → Dec (i < n) → Below b (get_or (tab n f) i [])
      go i (yes l) = rw (get_or-tab n f i [] l) (h i)
      go i (no l) = rw (get_or-eq_default (tab n f) [] {n = i} (omega (arith, length-tab n f))) (below_nil pos)

below-planes_of : (d : ℕ) (f : List ℕ) → Below (2 ^ 64) (planes_of d f)
unfolding planes_of
below-planes_of d f =
    below-flatten-tab (omega arith) 4 _
    (λ g. below-tab d (omega arith) (λ j h. (plane-bits 64 (λ i. get_or f (64 * g + i) 0) j).lt))

pub below-ciphertext_planes : (p : Parameters) (c : List ℕ) → Below (2 ^ 64) (ciphertext_planes p c)
unfolding ciphertext_planes
below-ciphertext_planes p c =
    below_append _ (below-flatten-tab (omega arith) p.k _ (λ i. below-planes_of p.du _))
    (below-planes_of p.dv _)
