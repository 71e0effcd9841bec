-- Two programs compared by matching their draws one to one, and equal counts from that.
use Rattle.std.specs.Prelude.{ℕ, suc, ◌+◌, ◌<◌, ◌≡◌, eqb}
use Rattle.std.proofs.Math.Path.{refl, ap₂}
use Rattle.std.proofs.Common.{◌∙◌, zero-add, suc-add, add-zero}
use Rattle.worksheet.specs.Prog.{Mask, bound, Prog, ret, draw, enter, ◌>>=◌}
use Rattle.worksheet.specs.Gives.{Gives, ret_g, draw_g, enter_g}
use Rattle.worksheet.specs.Sum.{when}
use Rattle.worksheet.specs.SumLaws.{Perm, sum_cong, sum-perm}
use Rattle.worksheet.specs.CountLaws.{total, hits}

-- The draws can be matched so that the results are related by R; the permutation of each draw may depend on all that
-- was drawn before. Both programs make n entries.
pub data Coupled {A B : Type 0} (R : A → B → Type 0) : ℕ → Prog A → Prog B → Type 0 where
  ret_c : {a : A} {b : B} → R a b → Coupled R 0 (ret a) (ret b)
  draw_c : {n : ℕ} {m : Mask} {k : ℕ → Prog A} {k' : ℕ → Prog B} (π : Perm (bound m))
      → ((x : ℕ) → x < bound m → Coupled R n (k x) (k' (π.to x))) → Coupled R n (draw m k) (draw m k')
  enter_c : {n v v' : ℕ} {p : Prog A} {p' : Prog B} → Coupled R n p p' → Coupled R (suc n) (enter v p) (enter v' p')

abbrev pub Any : {A B : Type 0} → A → B → Type 0
Any a b = Unit {0}

-- they draw and enter alike
abbrev pub Like : {A B : Type 0} → ℕ → Prog A → Prog B → Type 0
Like n p p' = Coupled Any n p p'

-- the draws can be matched so that entry i is equal
pub data SameAt {A B : Type 0} : ℕ → Prog A → Prog B → Type 0 where
  here : {n v v' : ℕ} {p : Prog A} {p' : Prog B} → v ≡ v' → Like n p p' → SameAt 0 (enter v p) (enter v' p')
  there : {i v v' : ℕ} {p : Prog A} {p' : Prog B} → SameAt i p p' → SameAt (suc i) (enter v p) (enter v' p')
  under : {i : ℕ} {m : Mask} {k : ℕ → Prog A} {k' : ℕ → Prog B} (π : Perm (bound m))
      → ((x : ℕ) → x < bound m → SameAt i (k x) (k' (π.to x))) → SameAt i (draw m k) (draw m k')

-- every entry can be made equal, each by a matching of its own
abbrev pub Silent : {A B : Type 0} → ℕ → Prog A → Prog B → Type 0
Silent n p p' = (i : ℕ) → i < n → SameAt i p p'

-- ---- equal counts

module _ {A B : Type 0} where
  equal_total : {R : A → B → Type 0} {n : ℕ} {p : Prog A} {p' : Prog B} → Coupled R n p p' → total p ≡ total p'
  unfolding total
  equal_total (ret_c r) = refl
  equal_total (draw_c {m = m} {k' = k'} π h) =
      sum_cong (bound m) (λ x lt. equal_total (h x lt)) ∙ sum-perm (bound m) π (λ y. total (k' y))
  equal_total (enter_c c) = equal_total c

  pub equal_hits : {i : ℕ} {p : Prog A} {p' : Prog B} → SameAt i p p' → (v : ℕ) → hits i v p ≡ hits i v p'
  unfolding hits
  equal_hits (here e c) v = ap₂ (λ (w t : ℕ). when (eqb w v) t) e (equal_total c)
  equal_hits (there s) v = equal_hits s v
  equal_hits (under {i = i} {m = m} {k' = k'} π h) v =
      sum_cong (bound m) (λ x lt. equal_hits (h x lt) v) ∙ sum-perm (bound m) π (λ y. hits i v (k' y))

-- ---- weaker relations, and counts or places written otherwise

module _ {A B : Type 0} where
  pub coupled_weaken : {R S : A → B → Type 0} {n : ℕ} {p : Prog A} {p' : Prog B}
      → ((a : A) (b : B) → R a b → S a b) → Coupled R n p p' → Coupled S n p p'
  coupled_weaken h (ret_c {a = a} {b = b} r) = ret_c (h a b r)
  coupled_weaken h (draw_c π k) = draw_c π (λ x lt. coupled_weaken h (k x lt))
  coupled_weaken h (enter_c c) = enter_c (coupled_weaken h c)

  pub coupled_recount : {R : A → B → Type 0} {m n : ℕ} {p : Prog A} {p' : Prog B} → m ≡ n → Coupled R m p p'
      → Coupled R n p p'
  coupled_recount e c = rw e at c

  pub same_at_recount : {i j : ℕ} {p : Prog A} {p' : Prog B} → i ≡ j → SameAt i p p' → SameAt j p p'
  same_at_recount e s = rw e at s

  -- every value of the first program is related to one of the second
  pub gives-coupled : {R : A → B → Type 0} {n : ℕ} {p : Prog A} {p' : Prog B} → Coupled R n p p'
      → Gives (λ a. (b : B) × R a b) p
  gives-coupled (ret_c {b = b} r) = ret_g (b, r)
  gives-coupled (draw_c π h) = draw_g (λ x lt. gives-coupled (h x lt))
  gives-coupled (enter_c c) = enter_g (gives-coupled c)

-- ---- sequence

module _ {A B C D : Type 0} {f : A → Prog C} {f' : B → Prog D} where
  pub coupled_bind : {R : A → B → Type 0} {S : C → D → Type 0} {m n : ℕ} {p : Prog A} {p' : Prog B}
      → Coupled R m p p' → ((a : A) (b : B) → R a b → Coupled S n (f a) (f' b))
      → Coupled S (m + n) (p >>= f) (p' >>= f')
  unfolding ◌>>=◌
  coupled_bind {n = n} (ret_c {a = a} {b = b} r) h = rw (zero-add n) (h a b r)
  coupled_bind (draw_c π k) h = draw_c π (λ x lt. coupled_bind (k x lt) h)
  coupled_bind {n = n} (enter_c {n = m} c) h = rw (suc-add m n) (enter_c (coupled_bind c h))

  -- an entry of the first part needs of the second only that it draws and enters alike
  pub same_at_left : {i n : ℕ} {p : Prog A} {p' : Prog B}
      → SameAt i p p' → ((a : A) (b : B) → Like n (f a) (f' b)) → SameAt i (p >>= f) (p' >>= f')
  unfolding ◌>>=◌
  same_at_left (here e c) h = here e (coupled_bind c (λ a b t. h a b))
  same_at_left (there s) h = there (same_at_left s h)
  same_at_left (under π k) h = under π (λ x lt. same_at_left (k x lt) h)

  -- an entry of the second part may choose how the first part is coupled
  pub same_at_right : {R : A → B → Type 0} {n i : ℕ} {p : Prog A} {p' : Prog B}
      → Coupled R n p p' → ((a : A) (b : B) → R a b → SameAt i (f a) (f' b)) → SameAt (n + i) (p >>= f) (p' >>= f')
  unfolding ◌>>=◌
  same_at_right {i = i} (ret_c {a = a} {b = b} r) h = rw (zero-add i) (h a b r)
  same_at_right (draw_c π k) h = under π (λ x lt. same_at_right (k x lt) h)
  same_at_right {i = i} (enter_c {n = n} c) h = rw (suc-add n i) (there (same_at_right c h))

-- what the programs give, rearranged
module _ {A B C D : Type 0} {p : Prog A} {p' : Prog B} (g : A → C) (g' : B → D) where
  pub coupled_map : {R : A → B → Type 0} {S : C → D → Type 0} {n : ℕ} → ((a : A) (b : B) → R a b → S (g a) (g' b))
      → Coupled R n p p' → Coupled S n (p >>= λ a. ret (g a)) (p' >>= λ b. ret (g' b))
  coupled_map {n = n} h c = coupled_recount (add-zero n) (coupled_bind c (λ a b r. ret_c (h a b r)))

  pub same_at_map : {i : ℕ} → SameAt i p p' → SameAt i (p >>= λ a. ret (g a)) (p' >>= λ b. ret (g' b))
  same_at_map s = same_at_left s (λ a b. ret_c tt)
