-- Laws of lists whose elements are all below a bound.
use Rattle.std.proofs.Common.{subst, arith, get_or-take, get_or-drop}
use Rattle.std.specs.Prelude.{List, [], ◌∷◌, ◌++◌, map, ℕ, zero, suc, ◌+◌, ◌<◌, length, get_or, take, drop, set}
use Rattle.std.specs.Prelude.{replicate}
use Rattle.std.proofs.Math.Decide.{dec_lt}
use Rattle.std.proofs.Math.ListN.{get_or-eq_default}
use Rattle.words.specs.Tab.{tab}
use Rattle.words.specs.TabLaws.{length-tab, get_or-tab}
use Rattle.words.specs.Part.{get_or-take_past}
use Rattle.words.specs.Bounded.{Below}

module _ {b : ℕ} where
  pub below_positive : {l : List ℕ} → Below b l → 0 < b
  below_positive {l} h =
      subst (λ (x : ℕ). x < b) (get_or-eq_default l 0 {n = length l} (omega arith)) (h.at (length l))

  pub below_nil : 0 < b → Below b []
  below_nil p = record { at = λ k. p }

  pub below_cons : {x : ℕ} {l : List ℕ} → x < b → Below b l → Below b (x ∷ l)
  below_cons {x} {l} h t = record { at = go }
    where
      go : (k : ℕ) → get_or (x ∷ l) k 0 < b
      go zero = h
      go (suc k) = t.at k

  pub below_head : {x : ℕ} {l : List ℕ} → Below b (x ∷ l) → x < b
  below_head h = h.at 0

  pub below_tail : {x : ℕ} {l : List ℕ} → Below b (x ∷ l) → Below b l
  below_tail h = record { at = λ k. h.at (suc k) }

  pub below_append : (l : List ℕ) {m : List ℕ} → Below b l → Below b m → Below b (l ++ m)
  below_append [] h g = g
  below_append (x ∷ l) h g = below_cons (below_head h) (below_append l (below_tail h) g)

  pub below_zeros : (n : ℕ) → 0 < b → Below b (replicate n 0)
  below_zeros zero p = below_nil p
  below_zeros (suc n) p = below_cons p (below_zeros n p)

  pub below-drop : (n : ℕ) {l : List ℕ} → Below b l → Below b (drop n l)
  below-drop n {l} h = record { at = λ k. rw (get_or-drop n l k 0) (h.at (n + k)) }

  pub below-take : (n : ℕ) {l : List ℕ} → Below b l → Below b (take n l)
  below-take n {l} h = record { at = λ k. go k (dec_lt k n) }
    where
      go : (k : ℕ) → Dec (k < n) → get_or (take n l) k 0 < b
      go k (yes p) = rw (get_or-take n l k 0 p) (h.at k)
      go k (no p) = rw (get_or-take_past n l k 0 (omega arith)) (below_positive h)

  pub below-tab : (n : ℕ) {f : ℕ → ℕ} → 0 < b → ((i : ℕ) → i < n → f i < b) → Below b (tab n f)
  below-tab n {f} p h = record { at = λ k. go k (dec_lt k n) }
    where
      go : (k : ℕ) → Dec (k < n) → get_or (tab n f) k 0 < b
      go k (yes q) = rw (get_or-tab n f k 0 q) (h k q)
      go k (no q) = rw (get_or-eq_default (tab n f) 0 {n = k} (omega (arith, length-tab n f))) p

  pub below_set : (l : List ℕ) (i : ℕ) {v : ℕ} → v < b → Below b l → Below b (set l i v)
  below_set [] i h g = g
  below_set (x ∷ l) zero h g = below_cons h (below_tail g)
  below_set (x ∷ l) (suc i) h g = below_cons (below_head g) (below_set l i h (below_tail g))

  pub below-map : (g : ℕ → ℕ) → 0 < b → ((x : ℕ) → g x < b) → (l : List ℕ) → Below b (map g l)
  below-map g p h [] = below_nil p
  below-map g p h (x ∷ l) = below_cons (h x) (below-map g p h l)
