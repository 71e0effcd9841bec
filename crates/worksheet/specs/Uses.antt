-- How much a program does: the same on all strips.
use Rattle.std.specs.Prelude.{ℕ, zero, suc, ◌+◌, ◌*◌, ◌≡◌, refl, List, [], length, get_or, drop}
use Rattle.std.proofs.Common.{ap, zero-add, suc-add, add-zero, zero-mul, suc-mul}
use Rattle.worksheet.specs.Prog.{word, coeff, Prog, ret, draw, enter, ◌>>=◌, loop, times, chain}
use Rattle.worksheet.specs.Run.{run}

-- it makes e entries and draws w words and c coefficients, whatever is drawn
pub data Uses {A : Type 0} : ℕ → ℕ → ℕ → Prog A → Type 0 where
  ret_u : {a : A} → Uses 0 0 0 (ret a)
  word_u : {e w c : ℕ} {k : ℕ → Prog A} → ((x : ℕ) → Uses e w c (k x)) → Uses e (suc w) c (draw word k)
  coeff_u : {e w c : ℕ} {k : ℕ → Prog A} → ((x : ℕ) → Uses e w c (k x)) → Uses e w (suc c) (draw coeff k)
  enter_u : {e w c v : ℕ} {p : Prog A} → Uses e w c p → Uses (suc e) w c (enter v p)

pub uses_recount : {A : Type 0} {e w c e' w' c' : ℕ} {p : Prog A} → e ≡ e' → w ≡ w' → c ≡ c' → Uses e w c p
    → Uses e' w' c' p
uses_recount p q r u = rw (p, q, r) at u

pub uses_bind : {A B : Type 0} {e w c e' w' c' : ℕ} {p : Prog A} {f : A → Prog B}
    → Uses e w c p → ((a : A) → Uses e' w' c' (f a)) → Uses (e + e') (w + w') (c + c') (p >>= f)
unfolding ◌>>=◌
uses_bind {e' = e} {w' = w} {c' = c} (ret_u {a = a}) h = rw (zero-add e, zero-add w, zero-add c) (h a)
uses_bind (word_u k) h = rw suc-add (word_u (λ x. uses_bind (k x) h))
uses_bind (coeff_u k) h = rw suc-add (coeff_u (λ x. uses_bind (k x) h))
uses_bind (enter_u u) h = rw suc-add (enter_u (uses_bind u h))

pub uses-loop : {S : Type 0} {e w c : ℕ} (n : ℕ) {f : ℕ → S → Prog S} (s : S)
    → ((j : ℕ) (t : S) → Uses e w c (f j t)) → Uses (n * e) (n * w) (n * c) (loop n f s)
unfolding loop
uses-loop {e = e} {w = w} {c = c} zero s h = rw (zero-mul e, zero-mul w, zero-mul c) ret_u
uses-loop {e = e} {w = w} {c = c} (suc n) s h =
    rw (suc-mul n e, suc-mul n w, suc-mul n c) (uses_bind (uses-loop n s h) (h n))

-- what p gives, rearranged
pub uses_map : {A B : Type 0} {e w c : ℕ} {p : Prog A} (g : A → B) → Uses e w c p → Uses e w c (p >>= λ a. ret (g a))
uses_map {e = e} {w = w} {c = c} g u = uses_recount (add-zero e) (add-zero w) (add-zero c) (uses_bind u (λ a. ret_u))

pub uses-times : {A : Type 0} {e w c : ℕ} (n : ℕ) {f : ℕ → Prog A}
    → ((j : ℕ) → Uses e w c (f j)) → Uses (n * e) (n * w) (n * c) (times n f)
unfolding times
uses-times n h = uses-loop n [] (λ j ys. uses_map _ (h j))

pub uses-chain : {S : Type 0} {e w c : ℕ} (n : ℕ) {f : ℕ → S → Prog S} (s : S)
    → ((j : ℕ) (t : S) → Uses e w c (f j t)) → Uses (n * e) (n * w) (n * c) (chain n f s)
unfolding chain
uses-chain n s h = uses-loop n _ (λ j ts. uses_map _ (h j (get_or ts j s)))

-- ---- on given strips

pub length-entries : {A : Type 0} {e w c : ℕ} {p : Prog A} → Uses e w c p → (ws cs : List ℕ)
    → length (run p ws cs).entries ≡ e
unfolding run
length-entries ret_u ws cs = refl
length-entries (word_u k) ws cs = length-entries (k (get_or ws 0 0)) (drop 1 ws) cs
length-entries (coeff_u k) ws cs = length-entries (k (get_or cs 0 0)) ws (drop 1 cs)
length-entries (enter_u u) ws cs = ap suc (length-entries u ws cs)
