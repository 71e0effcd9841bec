-- Programs in parts, regrouped, and loops whose turns are equal.
use Rattle.std.specs.Prelude.{ℕ, zero, suc, ◌<◌, ◌≡◌, refl, []}
use Rattle.std.proofs.Common.{ap, ap₂, arith}
use Rattle.std.proofs.Math.Path.{fun_ext}
use Rattle.worksheet.specs.Prog.{Prog, ret, draw, enter, ◌>>=◌, loop, snoc, times}

pub bind_assoc : {A B C : Type 0} (p : Prog A) (f : A → Prog B) (g : B → Prog C)
    → p >>= f >>= g ≡ p >>= (λ a. f a >>= g)
unfolding ◌>>=◌
bind_assoc (ret a) f g = refl
bind_assoc (draw m k) f g = ap (draw m) (fun_ext (λ x. bind_assoc (k x) f g))
bind_assoc (enter v p) f g = ap (enter v) (bind_assoc p f g)

-- turns that are equal
pub loop_cong : {S : Type 0} (n : ℕ) {f g : ℕ → S → Prog S} (s : S) → ((j : ℕ) → j < n → (t : S) → f j t ≡ g j t)
    → loop n f s ≡ loop n g s
unfolding loop
loop_cong zero s e = refl
loop_cong (suc n) s e = ap₂ ◌>>=◌ (loop_cong n s (λ j h. e j (omega arith))) (fun_ext (e n (omega arith)))

pub times_cong : {A : Type 0} (n : ℕ) {f g : ℕ → Prog A} → ((j : ℕ) → j < n → f j ≡ g j) → times n f ≡ times n g
unfolding times
times_cong n e = loop_cong n [] (λ j h ys. ap (λ p. snoc p ys) (e j h))
