-- Parts of the worksheet, and how they compose.
use Rattle.std.specs.Prelude.{ℕ, zero, suc, ◌+◌, ◌*◌, ◌<◌}
use Rattle.std.proofs.Common.{zero-mul, suc-mul, arith}
use Rattle.worksheet.specs.Prog.{Prog, ret, ◌>>=◌, loop, times}
use Rattle.worksheet.specs.ProgLaws.{bind_assoc}
use Rattle.worksheet.specs.Couple.{Coupled, ret_c, Any, Like, SameAt, coupled_bind, coupled_map, same_at_left}
use Rattle.worksheet.specs.Couple.{same_at_right, same_at_map}
use Rattle.worksheet.specs.CoupleLoops.{coupled-times, like-times, same_at_times}
use Rattle.worksheet.specs.Places.{cut, turns}
use Rattle.worksheet.specs.Turns.{Turns}

-- for some choice R e of how what comes in is related, entry i is equal
abbrev pub EqualAt : {A B C D E : Type 0} → (E → A → B → Type 0) → (A → Prog C) → (B → Prog D) → ℕ → Type 0
EqualAt {A} {B} {E = E} R f f' i = (e : E) × ((a : A) (b : B) → R e a b → SameAt i (f a) (f' b))

-- f and f' run on what comes in under the one key and under the other, and make m entries. R e is a choice of how what
-- comes in is related, S d of how what goes out is.
pub record Stage {A B C D E F : Type 0} (R : E → A → B → Type 0) (S : F → C → D → Type 0) (m : ℕ)
    (f : A → Prog C) (f' : B → Prog D) : Type 0 where
  -- whatever comes in, they draw and enter alike
  pub like : (a : A) (b : B) → Like m (f a) (f' b)
  -- for each entry there is a choice under which it is equal
  pub entry : (i : ℕ) → i < m → EqualAt R f f' i
  -- for each choice of what goes out there is one of what comes in
  pub fresh : (d : F) → (e : E) × ((a : A) (b : B) → R e a b → Coupled (S d) m (f a) (f' b))

module _ {A B C D G H E F K : Type 0} {R : E → A → B → Type 0} {S : F → C → D → Type 0} {Q : K → G → H → Type 0} where
  pub and_then : {m n : ℕ} {f : A → Prog C} {f' : B → Prog D} {g : C → Prog G} {g' : D → Prog H}
      → Stage R S m f f' → Stage S Q n g g' → Stage R Q (m + n) (λ a. f a >>= g) (λ b. f' b >>= g')
  and_then {m} {n} {f} {f'} {g} {g'} s t =
      record {
        like = λ a b. coupled_bind (s.like a b) (λ c d u. t.like c d);
        entry =
            cut (EqualAt R (λ a. f a >>= g) (λ b. f' b >>= g')) m n
            (λ i h. let x = s.entry i h in (x.0, λ a b r. same_at_left (x.1 a b r) t.like))
            (λ i h.
            let y = t.entry i h in
            let x = s.fresh y.0 in (x.0, λ a b r. same_at_right (x.1 a b r) y.1));
        fresh = λ d.
            let y = t.fresh d in
            let x = s.fresh y.0 in (x.0, λ a b r. coupled_bind (x.1 a b r) y.1);
      }

-- n turns, where R j e is a choice for the state before turn j
pub loop-stage : {A B E : Type 0} {R : ℕ → E → A → B → Type 0} {m : ℕ} (n : ℕ) {f : ℕ → A → Prog A}
    {f' : ℕ → B → Prog B}
    → ((j : ℕ) → j < n → Stage (R j) (R (suc j)) m (f j) (f' j)) → Stage (R 0) (R n) (n * m) (loop n f) (loop n f')
unfolding loop
loop-stage {m = m} zero h =
    rw (zero-mul m)
    (record { like = λ a b. ret_c tt; entry = λ i lt. absurd (omega arith); fresh = λ d. (d, λ a b r. ret_c r) })
loop-stage {m = m} (suc n) h =
    rw (suc-mul n m) (and_then (loop-stage n (λ j lt. h j (omega arith))) (h n (omega arith)))

-- a choice for what is worked on and one for what is kept beside it
pub record Beside {A B E G H K : Type 0} (R : E → A → B → Type 0) (Q : K → G → H → Type 0)
    (e : E × K) (a : A × G) (b : B × H) : Type 0 where
  pub main : R e.0 a.0 b.0
  pub side : Q e.1 a.1 b.1

abbrev pub beside : {A C G : Type 0} → (A → Prog C) → A × G → Prog (C × G)
beside f a = f a.0 >>= λ c. ret (c, a.1)

module _ {A B C D G H E F K : Type 0} {R : E → A → B → Type 0} {S : F → C → D → Type 0} {Q : K → G → H → Type 0} where
  frame : (k : K) {m : ℕ} {f : A → Prog C} {f' : B → Prog D}
      → Stage R S m f f' → Stage (Beside R Q) (Beside S Q) m (beside f) (beside f')
  frame k s =
      record {
        like = λ a b. coupled_map _ _ (λ c d u. u) (s.like a.0 b.0);
        entry = λ i h. let x = s.entry i h in ((x.0, k), λ a b r. same_at_map _ _ (x.1 a.0 b.0 r.main));
        fresh = λ d.
            let x = s.fresh d.0 in (
              (x.0, d.1),
              λ a b r. coupled_map _ _ (λ u v t. record { main = t; side = r.side })
                  (x.1 a.0 b.0 r.main),
            );
      }

-- what is live, rearranged: no entries
pub moves : {A B C D E F : Type 0} {R : E → A → B → Type 0} {S : F → C → D → Type 0} {g : A → C} {g' : B → D}
    → ((d : F) → (e : E) × ((a : A) (b : B) → R e a b → S d (g a) (g' b)))
    → Stage R S 0 (λ a. ret (g a)) (λ b. ret (g' b))
moves h =
    record {
      like = λ a b. ret_c tt;
      entry = λ i l. absurd (omega arith);
      fresh = λ d. ((h d).0, λ a b r. ret_c ((h d).1 a b r));
    }

-- what comes in, read otherwise
pub comap : {A B C D E F G H K : Type 0} {R : E → A → B → Type 0} {S : F → C → D → Type 0} {m : ℕ}
    {f : A → Prog C} {f' : B → Prog D}
    (Q : K → G → H → Type 0) (g : G → A) (g' : H → B) (k : E → K)
    → ((e : E) (a : G) (b : H) → Q (k e) a b → R e (g a) (g' b)) → Stage R S m f f'
    → Stage Q S m (λ a. f (g a)) (λ b. f' (g' b))
comap Q g g' k h s =
    record {
      like = λ a b. s.like (g a) (g' b);
      entry = λ i l. let x = s.entry i l in (k x.0, λ a b r. x.1 (g a) (g' b) (h x.0 a b r));
      fresh = λ d. let x = s.fresh d in (k x.0, λ a b r. x.1 (g a) (g' b) (h x.0 a b r));
    }

-- what goes out, rearranged
pub rearrange : {A B C D G H E F K : Type 0} {R : E → A → B → Type 0} {S : F → C → D → Type 0} {m : ℕ}
    {f : A → Prog C} {f' : B → Prog D}
    (Q : K → G → H → Type 0) (g : C → G) (g' : D → H) (k : K → F)
    → ((d : K) (x : C) (y : D) → S (k d) x y → Q d (g x) (g' y)) → Stage R S m f f'
    → Stage R Q m (λ a. f a >>= λ c. ret (g c)) (λ b. f' b >>= λ c. ret (g' c))
rearrange Q g g' k h s =
    record {
      like = λ a b. coupled_map _ _ (λ c d u. u) (s.like a b);
      entry = λ i l. let x = s.entry i l in (x.0, λ a b r. same_at_map _ _ (x.1 a b r));
      fresh = λ d. let x = s.fresh (k d) in (x.0, λ a b r. coupled_map _ _ (h d) (x.1 a b r));
    }

-- ---- what is live goes on to the second part

module _ {A B C D G H I J E F K L : Type 0} {R : E → A → B → Type 0} {S : F → C → D → Type 0} {Q : K → G → H → Type 0}
    {U : L → I → J → Type 0} {m n : ℕ}
    {f : A → Prog C} {f' : B → Prog D} {g : C × G → Prog I} {g' : D × H → Prog J} where
  -- what is kept beside the first part
  pub and_beside : (k : K) → Stage R S m f f' → Stage (Beside S Q) U n g g'
      → Stage (Beside R Q) U (m + n) (λ a. f a.0 >>= λ c. g (c, a.1)) (λ b. f' b.0 >>= λ d. g' (d, b.1))
  unfolding ◌>>=◌
  and_beside k s t =
      let x = and_then (frame {Q = Q} k s) t in
      record {
        like = λ a b. rw (bind_assoc (f a.0), bind_assoc (f' b.0)) at (x.like a b);
        entry = λ i l.
            let y = x.entry i l in
            (y.0, λ a b r. rw (bind_assoc (f a.0), bind_assoc (f' b.0)) at (y.1 a b r));
        fresh = λ d.
            let y = x.fresh d in
            (y.0, λ a b r. rw (bind_assoc (f a.0), bind_assoc (f' b.0)) at (y.1 a b r));
      }

-- all that comes in, where the first part asks nothing of it
pub and_also : {A B C D I J F K L : Type 0} {S : F → C → D → Type 0} {Q : K → A → B → Type 0} {U : L → I → J → Type 0}
    {m n : ℕ}
    {f : A → Prog C} {f' : B → Prog D} {g : C × A → Prog I} {g' : D × B → Prog J}
    (k : K) → Stage (λ (e : Unit {0}). Any) S m f f' → Stage (Beside S Q) U n g g'
    → Stage Q U (m + n) (λ a. f a >>= λ c. g (c, a)) (λ b. f' b >>= λ d. g' (d, b))
and_also {Q = Q} k s t =
    comap Q (λ a. (a, a)) (λ b. (b, b)) (λ e. e.1) (λ e a b r. record { main = tt; side = r }) (and_beside k s t)

-- ---- n turns on what comes in, of which one choice serves them all

module _ {A B C D E F K : Type 0} {R : E → A → B → Type 0} {S : F → C → D → Type 0}
    (Q : K → ℕ → C → D → Type 0) (n : ℕ) {m : ℕ}
    {f : ℕ → A → Prog C} {f' : ℕ → B → Prog D} where
  pub times-stage : ((j : ℕ) → j < n → Stage R S m (f j) (f' j))
      → ((d : K) → (e : E) × ((a : A) (b : B) → R e a b → (j : ℕ) → j < n → Coupled (Q d j) m (f j a) (f' j b)))
      → Stage R (λ d. Turns (Q d) n) (n * m) (λ a. times n (λ j. f j a)) (λ b. times n (λ j. f' j b))
  times-stage s c =
      record {
        like = λ a b. like-times n (λ j h. (s j h).like a b);
        entry =
            turns (EqualAt R (λ a. times n (λ j. f j a)) (λ b. times n (λ j. f' j b))) n m (λ j i h l.
            let x = (s j h).entry i l in (x.0, λ a b r. same_at_times n j (λ j h. (s j h).like a b) h (x.1 a b r)));
        fresh = λ d. let x = c d in (x.0, λ a b r. coupled-times n (x.1 a b r));
      }
