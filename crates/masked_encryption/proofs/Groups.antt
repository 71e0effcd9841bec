-- A loop over the groups of several parts, as loops over the groups of each: m k turns are k times m turns, once the
-- results are put one behind the other.
use mathlib.Core.Path.{◌≡◌, refl, sym, ap, ◌∙◌, fun_ext}
use mathlib.Core.List.{List, [], ◌∷◌, ◌++◌, append-nil, append_assoc, flatten}
use Prim.Native.Nat.{ℕ, zero, suc, ◌+◌, ◌*◌}
use native.Mathlib.Nat.{add-zero, add-suc, mul-zero, mul-suc}
use Rattle.worksheet.specs.Prog.{Prog, ret, draw, enter, ◌>>=◌, loop, snoc, times}
use Rattle.worksheet.specs.ProgLaws.{bind_assoc}
use Rattle.stages.specs.FlattenLaws.{flatten_append}

bind_ret : {A : Type 0} (p : Prog A) → p >>= ret ≡ p
unfolding ◌>>=◌
bind_ret (ret a) = refl
bind_ret (draw m k) = ap (draw m) (fun_ext (λ x. bind_ret (k x)))
bind_ret (enter v p) = ap (enter v) (bind_ret p)

-- p, what f makes of its result, and what g makes of that
pub bind_map : {A B C : Type 0} (p : Prog A) (f : A → B) (g : B → Prog C)
    → (p >>= λ a. ret (f a)) >>= g ≡ p >>= λ a. g (f a)
unfolding ◌>>=◌
bind_map p f g = bind_assoc p (λ a. ret (f a)) g

-- equal continuations
bind_cong : {A B : Type 0} (p : Prog A) {f g : A → Prog B} → ((a : A) → f a ≡ g a) → p >>= f ≡ p >>= g
bind_cong p e = ap (λ f. p >>= f) (fun_ext e)

-- the first m turns, and n behind them
times_add : {A : Type 0} (m n : ℕ) (f : ℕ → Prog A)
    → times (m + n) f ≡ times m f >>= λ a. times n (λ j. f (m + j)) >>= λ b. ret (a ++ b)
unfolding times loop ◌>>=◌
times_add m zero f =
    ap (λ i. times i f) (add-zero m)
    ∙ sym (bind_ret (times m f))
    ∙ bind_cong (times m f) (λ a. ap ret (sym (append-nil a)))
times_add {A} m (suc n) f =
    ap (λ i. times i f) (add-suc m n)
    ∙ ap (λ p. p >>= snoc (f (m + n))) (times_add m n f)
    ∙ bind_assoc (times m f) _ (snoc (f (m + n)))
    ∙ bind_cong (times m f) (λ a.
    bind_map (times n (λ j. f (m + j))) (λ b. a ++ b) (snoc (f (m + n)))
    ∙ bind_cong (times n (λ j. f (m + j))) (λ b.
    bind_cong (f (m + n)) (λ y. ap ret (append_assoc a b (y ∷ [])))
    ∙ sym (bind_map (f (m + n)) (λ y. b ++ y ∷ []) (λ c. ret (a ++ c))))
    ∙ sym (bind_assoc (times n (λ j. f (m + j))) (snoc (f (m + n))) (λ c. ret (a ++ c))))

module _ {A : Type 0} (m : ℕ) (f : ℕ → Prog (List A)) where
  -- turns m i to m i + m - 1
  abbrev bundle : ℕ → Prog (List A)
  bundle i = times m (λ j. f (m * i + j)) >>= λ w. ret (flatten w)

  pub times_bundles : (k : ℕ)
      → (times k bundle >>= λ u. ret (flatten u)) ≡ (times (m * k) f >>= λ z. ret (flatten z))
  unfolding times loop ◌>>=◌ flatten
  times_bundles zero = ap (λ n. times n f >>= λ z. ret (flatten z)) (sym (mul-zero m))
  times_bundles (suc k) =
      let next : List A → Prog (List A) = λ v. bundle k >>= λ x. ret (v ++ x) in
      bind_assoc (times k bundle) (snoc (bundle k)) (λ u. ret (flatten u))
      ∙ bind_cong (times k bundle) (λ u.
      bind_map (bundle k) (λ x. u ++ x ∷ []) (λ z. ret (flatten z))
      ∙ bind_cong (bundle k) (λ x. ap ret (flatten_append u (x ∷ []) ∙ ap (λ l. flatten u ++ l) (append-nil x))))
      ∙ sym (bind_map (times k bundle) flatten next)
      ∙ ap (λ p. p >>= next) (times_bundles k)
      ∙ bind_map (times (m * k) f) flatten next
      ∙ bind_cong (times (m * k) f) (λ z.
      bind_map (times m (λ j. f (m * k + j))) flatten (λ x. ret (flatten z ++ x))
      ∙ bind_cong (times m (λ j. f (m * k + j))) (λ w. ap ret (sym (flatten_append z w))))
      ∙ bind_cong (times (m * k) f) (λ z.
      sym (bind_map (times m (λ j. f (m * k + j))) (λ w. z ++ w) (λ z. ret (flatten z))))
      ∙ sym (bind_assoc (times (m * k) f) _ (λ z. ret (flatten z)))
      ∙ ap (λ p. p >>= λ z. ret (flatten z)) (sym (times_add (m * k) m f) ∙ ap (λ n. times n f) (sym (mul-suc m k)))
