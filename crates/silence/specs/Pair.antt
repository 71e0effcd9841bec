-- Two parts on what comes in, of which one choice serves both, and their results put together.
use Rattle.std.specs.Prelude.{ℕ, ◌+◌}
use Rattle.worksheet.specs.Prog.{Prog, ret, ◌>>=◌}
use Rattle.worksheet.specs.Couple.{Coupled, coupled_bind, coupled_map, same_at_left, same_at_right, same_at_map}
use Rattle.worksheet.specs.Places.{cut}
use Rattle.worksheet.specs.Stage.{EqualAt, Stage}

abbrev pub paired : {A C G I : Type 0} → (C → G → I) → (A → Prog C) → (A → Prog G) → A → Prog I
paired put f g a = f a >>= λ c. g a >>= λ x. ret (put c x)

module _ {A B C D G H I J E F K L : Type 0} {R : E → A → B → Type 0} {S : F → C → D → Type 0} {Q : K → G → H → Type 0}
    {U : L → I → J → Type 0} {m n : ℕ} {f : A → Prog C} {f' : B → Prog D} {g : A → Prog G} {g' : B → Prog H}
    (put : C → G → I) (put' : D → H → J) where
  pub pair_stage : {S₁ : L → C → D → Type 0} {Q₁ : L → G → H → Type 0} → Stage R S m f f' → Stage R Q n g g'
      → ((d : L) (c : C) (c' : D) (x : G) (x' : H) → S₁ d c c' → Q₁ d x x' → U d (put c x) (put' c' x'))
      →
      ((d : L) → (e : E) × ((a : A) (b : B) → R e a b → Coupled (S₁ d) m (f a) (f' b) × Coupled (Q₁ d) n (g a) (g' b)))
      → Stage R U (m + n) (paired put f g) (paired put' f' g')
  pair_stage s t h c =
      record {
        like = λ a b. coupled_bind (s.like a b) (λ x x' r. coupled_map _ _ (λ y y' u. u) (t.like a b));
        entry =
            cut (EqualAt R (paired put f g) (paired put' f' g')) m n
            (λ i l.
            let x = s.entry i l in
            (x.0, λ a b r. same_at_left (x.1 a b r) (λ y y'. coupled_map _ _ (λ z z' u. u) (t.like a b))))
            (λ i l.
            let x = t.entry i l in
            (x.0, λ a b r. same_at_right (s.like a b) (λ y y' u. same_at_map _ _ (x.1 a b r))));
        fresh = λ d.
            let x = c d in (
              x.0,
              λ a b r.
                  let k = x.1 a b r in
                  coupled_bind k.0 (λ y y' v. coupled_map _ _ (λ z z' w. h d y y' z z' v w) k.1),
            );
      }
