-- A loop that fills a list of n elements from the front by those of tab n f, and one that replaces those of l₀ so.
--
-- How a proof cites it, where turn i of a loop stores f i at place i:
--     the invariant    Filled n f i out; Replaced or Mapped where a turn also reads the old elements
--     before the loop  filled_start LENGTH
--     a turn           filled_turn INVARIANT (omega arith) VALUE, or filled_part for several places at once
--     after the loop   filled_end INVARIANT (omega arith) says out ≡ tab n f; where f reads a list s of n elements,
--                      filled_copy 0 says out ≡ s, and where f is constant, filled_constant says out ≡ replicate n x
use Rattle.std.specs.Prelude.{◌≡◌, List, ◌++◌, map, ℕ, ◌+◌, ◌-◌, ◌<◌, ◌≤◌, get_or, take, drop, set, replicate}
use Rattle.std.proofs.Math.Path.{refl}
use Rattle.std.proofs.Common.{sym, ap, ◌∙◌, append_assoc, add-one, length-append, length-drop, take_all, take_at}
use Rattle.std.proofs.Common.{get_or-take, get_or-set_other}
use Rattle.std.proofs.Math.Decide.{dec_lt}
use native.Mathlib.Omega.{arith}
use Rattle.std.proofs.Math.ListN.{length, length-set}
use Rattle.std.proofs.lemmas.List.{length-replicate, get_or-replicate}
use Rattle.std.proofs.Math.Seq.{take-suc-set}
use Rattle.words.specs.Tab.{tab}
use Rattle.words.specs.TabLaws.{length-tab, tabulated_length, tabulated_at, tab_add, tab_of, tab-get_or}
use Rattle.words.specs.Bounded.{Below}

module _ {A : Type 0} where
  -- the first i of the n elements of l are in place
  pub record Filled (n : ℕ) (f : ℕ → A) (i : ℕ) (l : List A) : Type 0 where
    pub within : i ≤ n
    pub long : length l ≡ n
    pub front : take i l ≡ tab i f

  pub filled_start : {n : ℕ} {f : ℕ → A} {l : List A} → length l ≡ n → Filled n f 0 l
  unfolding tab
  filled_start h = record { within = omega arith; long = h; front = refl }

  pub filled_turn : {n : ℕ} {f : ℕ → A} {i : ℕ} {l : List A} {v : A} → Filled n f i l → i < n → v ≡ f i
      → Filled n f (i + 1) (set l i v)
  unfolding tab
  filled_turn {n} {f} {i} {l} {v} a h e =
      record {
        within = omega arith;
        long = length-set l i v ∙ a.long;
        front = let g : i < length l = omega arith in rw (add-one i, take-suc-set l i v g, a.front, e);
      }

  -- the elements from i to e, put in place at once
  pub filled_part : {n : ℕ} {f : ℕ → A} {i e : ℕ} {l p : List A} → Filled n f i l → i ≤ e → e ≤ n
      → p ≡ tab (e - i) (λ k. f (i + k))
      → Filled n f e (take i l ++ (p ++ drop (e - i) (drop i l)))
  filled_part {n} {f} {i} {e} {l} {p} a h g q =
      let r = drop (e - i) (drop i l) in
      let w : i + (e - i) ≡ e = omega arith in
      let b : length (tab i f ++ p) ≡ e =
      length-append (tab i f) p ∙ omega (arith, length-tab i f, tabulated_length (e - i) (λ k. f (i + k)) q) in
      rw (a.front, ← append_assoc (tab i f) p r)
      record {
        within = g;
        long = length-append (tab i f ++ p) r ∙ omega (arith, length-drop (e - i) (drop i l), length-drop i l, a.long);
        front = take_at (tab i f ++ p) r e b ∙ rw q (sym (tab_add i (e - i) f) ∙ ap (λ (x : ℕ). tab x f) w);
      }

  pub filled_end : {n : ℕ} {f : ℕ → A} {i : ℕ} {l : List A} → Filled n f i l → n ≤ i → l ≡ tab n f
  filled_end {n} {i = i} {l} a h =
      let e : i ≡ n = omega arith in
      sym (take_all n l (omega arith)) ∙ (rw e at a.front)

  -- a copy of s
  pub filled_copy : (d : A) {s : List A} {i : ℕ} {l : List A} → Filled (length s) (λ k. get_or s k d) i l → length s ≤ i
      → l ≡ s
  filled_copy d {s} a h = filled_end a h ∙ sym (tab_of d s (length s) refl (λ k g. refl))

  -- one element everywhere
  pub filled_constant : {n : ℕ} {x : A} {i : ℕ} {l : List A} → Filled n (λ k. x) i l → n ≤ i → l ≡ replicate n x
  filled_constant {n} {x} a h =
      filled_end a h ∙ sym (tab_of x (replicate n x) n (length-replicate n x) (λ k g. get_or-replicate n k x x g))

  pub filled_at : {n : ℕ} {f : ℕ → A} {i : ℕ} {l : List A} → Filled n f i l → (d : A) (k : ℕ) → k < i
      → get_or l k d ≡ f k
  filled_at {f = f} {i} {l} a d k h = sym (get_or-take i l k d h) ∙ tabulated_at i f a.front k d h

  -- the first i of the n elements are in place, and the others are still those of l₀
  pub record Replaced (n : ℕ) (f : ℕ → A) (d : A) (l₀ : List A) (i : ℕ) (l : List A) : Type 0 where
    pub filled : Filled n f i l
    pub rest : (k : ℕ) → i ≤ k → get_or l k d ≡ get_or l₀ k d

  pub replaced_start : {n : ℕ} {f : ℕ → A} {d : A} {l : List A} → length l ≡ n → Replaced n f d l 0 l
  replaced_start h = record { filled = filled_start h; rest = λ k g. refl }

  pub replaced_turn : {n : ℕ} {f : ℕ → A} {d : A} {l₀ : List A} {i : ℕ} {l : List A} {v : A} → Replaced n f d l₀ i l
      → i < n → v ≡ f i
      → Replaced n f d l₀ (i + 1) (set l i v)
  replaced_turn {d = d} {i = i} {l} {v} a h e =
      record {
        filled = filled_turn a.filled h e;
        rest = λ k g. get_or-set_other l i k v d (omega arith) ∙ a.rest k (omega arith);
      }

  pub replaced_end : {n : ℕ} {f : ℕ → A} {d : A} {l₀ : List A} {i : ℕ} {l : List A} → Replaced n f d l₀ i l → n ≤ i
      → l ≡ tab n f
  replaced_end a h = filled_end a.filled h

  -- from i on the elements of l₀ are those of tab n f
  pub replaced_stop : {n : ℕ} {f : ℕ → A} {d : A} {l₀ : List A} {i : ℕ} {l : List A} → Replaced n f d l₀ i l
      → ((k : ℕ) → i ≤ k → get_or l₀ k d ≡ f k) → l ≡ tab n f
  replaced_stop {n} {f} {d} {l₀} {i} {l} a r = tab_of d l n a.filled.long (λ k h. go k (dec_lt k i))
    where
      go : (k : ℕ) → Dec (k < i) → get_or l k d ≡ f k
      go k (yes p) = filled_at a.filled d k p
      go k (no p) = a.rest k (omega arith) ∙ r k (omega arith)

  -- the first i elements of l₀ are replaced by their values under g
  pub record Mapped (g : A → A) (d : A) (l₀ : List A) (i : ℕ) (l : List A) : Type 0 where
    pub replaced : Replaced (length l₀) (λ k. g (get_or l₀ k d)) d l₀ i l

  pub mapped_start : {g : A → A} {d : A} {l : List A} → Mapped g d l 0 l
  mapped_start = record { replaced = replaced_start refl }

  pub mapped_turn : {g : A → A} {d : A} {l₀ : List A} {i : ℕ} {l : List A} {v : A} → Mapped g d l₀ i l → i < length l₀
      → v ≡ g (get_or l i d)
      → Mapped g d l₀ (i + 1) (set l i v)
  mapped_turn {g} {i = i} a h e =
      record { replaced = replaced_turn a.replaced h (e ∙ ap g (a.replaced.rest i (omega arith))) }

  pub mapped_end : {g : A → A} {d : A} {l₀ : List A} {i : ℕ} {l : List A} → Mapped g d l₀ i l → length l₀ ≤ i
      → l ≡ map g l₀
  mapped_end {g} {d} {l₀} a h = replaced_end a.replaced h ∙ tab-get_or g d l₀

-- where all elements of l₀ are below b, so is the one that comes next
pub mapped-below : {b : ℕ} {g : ℕ → ℕ} {l₀ : List ℕ} {i : ℕ} {l : List ℕ} → Mapped g 0 l₀ i l → Below b l₀
    → get_or l i 0 < b
mapped-below {i = i} a h = rw (a.replaced.rest i (omega arith)) (h.at i)
