-- Laws of turns of a step, and the records that a loop keeps of them.
use Rattle.std.specs.Prelude.{◌≡◌}
use Rattle.std.proofs.Math.Path.{refl, sym, ap}
use Rattle.std.proofs.Common.{◌∙◌, zero-mul, suc-mul, arith}
use Prim.Native.Nat.{ℕ, zero, suc, ◌+◌, ◌*◌, ◌<◌, ◌≤◌}
use Rattle.std.proofs.Math.Numerals.{add-one}
use Rattle.words.specs.Iterate.{iterate}

module _ {A : Type 0} where
  -- what holds of s and is kept by each turn holds of the last state
  pub iterate_keeps : (P : ℕ → A → Type 0) (n : ℕ) (f : ℕ → A → A) {s : A}
      → ((j : ℕ) → j < n → (t : A) → P j t → P (suc j) (f j t)) → P 0 s
      → P n (iterate n f s)
  unfolding iterate
  iterate_keeps P zero f h p = p
  iterate_keeps P (suc n) f {s} h p =
      h n (omega arith) (iterate n f s) (iterate_keeps P n f (λ j g. h j (omega arith)) p)

  pub iterate_cong : (n : ℕ) {f g : ℕ → A → A} (s : A) → ((j : ℕ) → j < n → (t : A) → f j t ≡ g j t)
      → iterate n f s ≡ iterate n g s
  unfolding iterate
  iterate_cong zero s e = refl
  iterate_cong (suc n) {f} {g} s e =
      e n (omega arith) (iterate n f s) ∙ ap (g n) (iterate_cong n s (λ j h. e j (omega arith)))

  -- a loop of n turns from s stands before turn j, at t
  pub record Reached (n : ℕ) (f : ℕ → A → A) (s : A) (j : ℕ) (t : A) : Type 0 where
    pub within : j ≤ n
    pub is : t ≡ iterate j f s

  pub reached_start : {n : ℕ} {f : ℕ → A → A} {s : A} → Reached n f s 0 s
  unfolding iterate
  reached_start = record { within = omega arith; is = refl }

  pub reached_turn : {n : ℕ} {f : ℕ → A → A} {s : A} {j : ℕ} {t u : A} → Reached n f s j t → j < n → u ≡ f j t
      → Reached n f s (j + 1) u
  unfolding iterate
  reached_turn {f = f} {j = j} r h e = record { within = omega arith; is = rw add-one (e ∙ ap (f j) r.is) }

  pub reached_end : {n : ℕ} {f : ℕ → A → A} {s : A} {j : ℕ} {t : A} → Reached n f s j t → n ≤ j → t ≡ iterate n f s
  reached_end {n} {j = j} r h = let e : j ≡ n = omega arith in rw e at r.is

  -- a loop that counts by k has gone from s to t, and from 0 to a
  pub record ReachedBy (k : ℕ) (f : ℕ → A → A) (s : A) (a : ℕ) (t : A) : Type 0 where
    pub turns : ℕ
    pub at : a ≡ turns * k
    pub is : t ≡ iterate turns f s

  pub reached_by_start : {k : ℕ} {f : ℕ → A → A} {s : A} → ReachedBy k f s 0 s
  unfolding iterate
  reached_by_start {k} = record { turns = 0; at = sym (zero-mul k); is = refl }

  pub reached_by_turn : {k : ℕ} {f : ℕ → A → A} {s : A} {a : ℕ} {t u : A} (r : ReachedBy k f s a t) → u ≡ f r.turns t
      → ReachedBy k f s (a + k) u
  unfolding iterate
  reached_by_turn {k} {f} r e =
      record {
        turns = suc r.turns;
        at = rw (suc-mul r.turns k) (ap (λ (x : ℕ). x + k) r.at);
        is = e ∙ ap (f r.turns) r.is;
      }
