-- Couplings of loops: an entry of turn j needs turn j's own fact, and of the other turns only that they draw and enter
-- alike.
use Prim.Native.Nat.{ℕ, zero, suc, ◌+◌, ◌*◌, ◌<◌}
use Rattle.std.specs.Prelude.{◌≡◌, get_or}
use mathlib.Core.List.{[]}
use Rattle.std.proofs.Math.Decide.{dec_lt}
use Rattle.std.proofs.Common.{zero-mul, suc-mul}
use native.Mathlib.Omega.{arith}
use Rattle.worksheet.specs.Prog.{Prog, ◌>>=◌, loop, snoc, times, chain}
use Rattle.worksheet.specs.Couple.{Coupled, ret_c, Any, Like, Silent, SameAt, coupled_bind, coupled_map}
use Rattle.worksheet.specs.Couple.{same_at_left, same_at_right, same_at_map}
use Rattle.worksheet.specs.Places.{turns}
use Rattle.worksheet.specs.Turns.{Turns, turns_nil, turns_snoc}

-- n turns of m entries: each draws and enters alike, whatever the states
abbrev pub AllLike : {A B : Type 0} → ℕ → ℕ → (ℕ → A → Prog A) → (ℕ → B → Prog B) → Type 0
AllLike {A} {B} n m f f' = (j : ℕ) → j < n → (t : A) (t' : B) → Like m (f j t) (f' j t')

-- each takes states related by I j to states related by I (j + 1)
abbrev pub AllKeep : {A B : Type 0} → (ℕ → A → B → Type 0) → ℕ → ℕ → (ℕ → A → Prog A) → (ℕ → B → Prog B) → Type 0
AllKeep {A} {B} I n m f f' = (j : ℕ) → j < n → (t : A) (t' : B) → I j t t' → Coupled (I (suc j)) m (f j t) (f' j t')

-- ---- loop

module _ {A B : Type 0}
    (I : ℕ → A → B → Type 0) {m : ℕ} {f : ℕ → A → Prog A} {f' : ℕ → B → Prog B} {s : A} {s' : B} where
  pub coupled-loop : (n : ℕ) → AllKeep I n m f f' → I 0 s s' → Coupled (I n) (n * m) (loop n f s) (loop n f' s')
  unfolding loop
  coupled-loop zero c r = rw (zero-mul m) (ret_c r)
  coupled-loop (suc n) c r =
      rw (suc-mul n m) (coupled_bind (coupled-loop n (λ j h. c j (omega arith)) r) (c n (omega arith)))

  -- entry i of turn j
  pub same_at_loop : {i : ℕ} (n j : ℕ) → AllLike n m f f' → AllKeep I n m f f' → I 0 s s' → j < n
      → ((t : A) (t' : B) → I j t t' → SameAt i (f j t) (f' j t')) → SameAt (j * m + i) (loop n f s) (loop n f' s')
  unfolding loop
  same_at_loop zero j l c r h e = absurd (omega arith)
  same_at_loop {i} (suc n) j l c r h e =
      go (dec_lt j n) (λ q. same_at_loop n j (λ k g. l k (omega arith)) (λ k g. c k (omega arith)) r q e)
    where
      go : Dec (j < n) → (j < n → SameAt (j * m + i) (loop n f s) (loop n f' s'))
          → SameAt (j * m + i) (loop n f s >>= f n) (loop n f' s' >>= f' n)
      go (yes q) ih = same_at_left (ih q) (l n (omega arith))
      go (no q) ih =
          let k : j ≡ n = omega arith in
          rw k (same_at_right (coupled-loop n (λ k g. c k (omega arith)) r) (rw k at e))

  pub silent-loop : (n : ℕ) → AllLike n m f f' → AllKeep I n m f f' → I 0 s s'
      → ((j : ℕ) → j < n → (t : A) (t' : B) → I j t t' → Silent m (f j t) (f' j t'))
      → Silent (n * m) (loop n f s) (loop n f' s')
  silent-loop n l c r e =
      turns (λ k. SameAt k (loop n f s) (loop n f' s')) n m
      (λ j i h g. same_at_loop n j l c r h (λ t t' q. e j h t t' q i g))

pub like-loop : {A B : Type 0} {m : ℕ} (n : ℕ) {f : ℕ → A → Prog A} {f' : ℕ → B → Prog B} (s : A) (s' : B)
    → AllLike n m f f'
    → Like (n * m) (loop n f s) (loop n f' s')
like-loop n s s' l = coupled-loop (λ j. Any) n (λ j h t t' u. l j h t t') tt

-- ---- times

module _ {A B : Type 0} {m : ℕ} (n : ℕ) {f : ℕ → Prog A} {f' : ℕ → Prog B} where
  pub coupled-times : {R : ℕ → A → B → Type 0} → ((j : ℕ) → j < n → Coupled (R j) m (f j) (f' j))
      → Coupled (Turns R n) (n * m) (times n f) (times n f')
  unfolding times
  coupled-times {R} c =
      coupled-loop (Turns R) n (λ j h ys ys' r. coupled_map _ _ (λ y y' q. turns_snoc r q) (c j h)) turns_nil

  like_turn : ((j : ℕ) → j < n → Like m (f j) (f' j))
      → AllLike n m (λ j ys. snoc (f j) ys) (λ j ys. snoc (f' j) ys)
  like_turn l j h ys ys' = coupled_map _ _ (λ y y' u. u) (l j h)

  pub like-times : ((j : ℕ) → j < n → Like m (f j) (f' j)) → Like (n * m) (times n f) (times n f')
  unfolding times
  like-times l = like-loop n [] [] (like_turn l)

  pub same_at_times : {i : ℕ} (j : ℕ) → ((j : ℕ) → j < n → Like m (f j) (f' j)) → j < n → SameAt i (f j) (f' j)
      → SameAt (j * m + i) (times n f) (times n f')
  unfolding times
  same_at_times j l h e =
      same_at_loop (λ j. Any) n j (like_turn l) (λ j h ys ys' u. like_turn l j h ys ys') tt h
      (λ ys ys' u. same_at_map _ _ e)

  pub silent-times : ((j : ℕ) → j < n → Like m (f j) (f' j)) → ((j : ℕ) → j < n → Silent m (f j) (f' j))
      → Silent (n * m) (times n f) (times n f')
  silent-times l e = turns (λ k. SameAt k (times n f) (times n f')) n m (λ j i h g. same_at_times j l h (e j h i g))

-- ---- chain

module _ {A B : Type 0} {m : ℕ} (n : ℕ) {f : ℕ → A → Prog A} {f' : ℕ → B → Prog B} (s : A) (s' : B) where
  like_step : AllLike n m f f'
      → AllLike n m (λ j ts. snoc (f j (get_or ts j s)) ts) (λ j ts. snoc (f' j (get_or ts j s')) ts)
  like_step l j h ts ts' = coupled_map _ _ (λ t t' u. u) (l j h (get_or ts j s) (get_or ts' j s'))

  pub like-chain : AllLike n m f f' → Like (n * m) (chain n f s) (chain n f' s')
  unfolding chain
  like-chain l = like-loop n _ _ (like_step l)

  module _ {I : ℕ → A → B → Type 0} (c : AllKeep I n m f f') (r : I 0 s s') where
    keep_step : AllKeep (λ j. Turns I (suc j)) n m (λ j ts. snoc (f j (get_or ts j s)) ts)
        (λ j ts. snoc (f' j (get_or ts j s')) ts)
    keep_step j h ts ts' q = coupled_map _ _ (λ t t' u. turns_snoc q u) (c j h _ _ (q.at s s' j (omega arith)))

    pub coupled-chain : Coupled (Turns I (suc n)) (n * m) (chain n f s) (chain n f' s')
    unfolding chain
    coupled-chain = coupled-loop (λ j. Turns I (suc j)) n keep_step (turns_snoc turns_nil r)

    pub same_at_chain : {i : ℕ} (j : ℕ) → AllLike n m f f' → j < n
        → ((t : A) (t' : B) → I j t t' → SameAt i (f j t) (f' j t'))
        → SameAt (j * m + i) (chain n f s) (chain n f' s')
    unfolding chain
    same_at_chain j l h e =
        same_at_loop (λ j. Turns I (suc j)) n j (like_step l) keep_step (turns_snoc turns_nil r) h
        (λ ts ts' q. same_at_map _ _ (e _ _ (q.at s s' j (omega arith))))
