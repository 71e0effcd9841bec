-- What holds of a program's value, whatever masks are drawn.
use Rattle.std.specs.Prelude.{ℕ, zero, suc, ◌<◌, List, get_or}
use Rattle.std.proofs.Common.{arith}
use Rattle.words.specs.Bounded.{Below}
use Rattle.words.specs.BoundedLaws.{below-drop}
use Rattle.worksheet.specs.Prog.{Mask, word, coeff, bound, Prog, ret, draw, enter, ◌>>=◌, loop, times, chain}
use Rattle.worksheet.specs.Run.{run}
use Rattle.worksheet.specs.Turns.{Each, each_nil, each_snoc}

-- P holds of every value that it can give
pub data Gives {A : Type 0} (P : A → Type 0) : Prog A → Type 0 where
  ret_g : {a : A} → P a → Gives P (ret a)
  draw_g : {m : Mask} {k : ℕ → Prog A} → ((x : ℕ) → x < bound m → Gives P (k x)) → Gives P (draw m k)
  enter_g : {v : ℕ} {p : Prog A} → Gives P p → Gives P (enter v p)

pub gives_bind : {A B : Type 0} {P : A → Type 0} {Q : B → Type 0} {p : Prog A} {f : A → Prog B}
    → Gives P p → ((a : A) → P a → Gives Q (f a)) → Gives Q (p >>= f)
unfolding ◌>>=◌
gives_bind (ret_g {a = a} r) h = h a r
gives_bind (draw_g k) h = draw_g (λ x lt. gives_bind (k x lt) h)
gives_bind (enter_g g) h = enter_g (gives_bind g h)

pub gives_weaken : {A : Type 0} {P Q : A → Type 0} {p : Prog A} → ((a : A) → P a → Q a) → Gives P p → Gives Q p
gives_weaken h (ret_g {a = a} r) = ret_g (h a r)
gives_weaken h (draw_g k) = draw_g (λ x lt. gives_weaken h (k x lt))
gives_weaken h (enter_g g) = enter_g (gives_weaken h g)

-- P j holds of the state before turn j
pub gives-loop : {S : Type 0} (P : ℕ → S → Type 0) (n : ℕ) {f : ℕ → S → Prog S} {s : S}
    → ((j : ℕ) → j < n → (t : S) → P j t → Gives (P (suc j)) (f j t)) → P 0 s → Gives (P n) (loop n f s)
unfolding loop
gives-loop P zero h r = ret_g r
gives-loop P (suc n) h r = gives_bind (gives-loop P n (λ j lt. h j (omega arith)) r) (h n (omega arith))

-- Q j holds of the result of turn j
pub gives-times : {A : Type 0} (Q : ℕ → A → Type 0) (n : ℕ) {f : ℕ → Prog A}
    → ((j : ℕ) → j < n → Gives (Q j) (f j)) → Gives (Each Q n) (times n f)
unfolding times
gives-times Q n h = gives-loop (Each Q) n (λ j lt ys r. gives_bind (h j lt) (λ y q. ret_g (each_snoc r q))) each_nil

pub gives-chain : {S : Type 0} (P : ℕ → S → Type 0) (n : ℕ) {f : ℕ → S → Prog S} {s : S}
    → ((j : ℕ) → j < n → (t : S) → P j t → Gives (P (suc j)) (f j t)) → P 0 s → Gives (Each P (suc n)) (chain n f s)
unfolding chain
gives-chain P n {s = s} h r =
    gives-loop (λ j. Each P (suc j)) n
    (λ j lt ts q. gives_bind (h j lt (get_or ts j s) (q.at s j (omega arith))) (λ t p. ret_g (each_snoc q p)))
    (each_snoc each_nil r)

-- on strips of masks in range
pub gives-run : {A : Type 0} {P : A → Type 0} {p : Prog A} → Gives P p → {ws cs : List ℕ}
    → Below (bound word) ws → Below (bound coeff) cs → P (run p ws cs).value
unfolding run
gives-run (ret_g r) h g = r
gives-run (draw_g {m = word} k) {ws} h g = gives-run (k (get_or ws 0 0) (h.at 0)) (below-drop 1 h) g
gives-run (draw_g {m = coeff} k) {cs = cs} h g = gives-run (k (get_or cs 0 0) (g.at 0)) h (below-drop 1 g)
gives-run (enter_g p) h g = gives-run p h g
