-- Entries one after the other, with no draw between them.
use Rattle.std.specs.Prelude.{ℕ, zero, suc, ◌+◌, ◌<◌, ◌≡◌, List, [], ◌∷◌, length, get_or}
use Rattle.std.proofs.Common.{zero-add, suc-add, arith}
use Rattle.worksheet.specs.Prog.{Prog, enter}
use Rattle.worksheet.specs.Couple.{Coupled, enter_c, Like, SameAt, here, there}

-- enters vs in order, and goes on with p
abbrev pub enter_all : {A : Type 0} → List ℕ → Prog A → Prog A
enter_all [] p = p
enter_all (v ∷ vs) p = enter v (enter_all vs p)

module _ {A B : Type 0} {n : ℕ} {p : Prog A} {p' : Prog B} where
  pub coupled-enter_all : {R : A → B → Type 0} (vs vs' : List ℕ) → length vs' ≡ length vs → Coupled R n p p'
      → Coupled R (length vs + n) (enter_all vs p) (enter_all vs' p')
  coupled-enter_all [] [] e c = rw (zero-add n) c
  coupled-enter_all [] (v' ∷ vs') e c = absurd (omega arith)
  coupled-enter_all (v ∷ vs) [] e c = absurd (omega arith)
  coupled-enter_all (v ∷ vs) (v' ∷ vs') e c =
      rw (suc-add (length vs) n) (enter_c (coupled-enter_all vs vs' (omega arith) c))

  pub same_at_enter_all : (vs vs' : List ℕ) (i : ℕ) → length vs' ≡ length vs → i < length vs
      → get_or vs i 0 ≡ get_or vs' i 0
      → Like n p p' → SameAt i (enter_all vs p) (enter_all vs' p')
  same_at_enter_all [] vs' i e h q c = absurd (omega arith)
  same_at_enter_all (v ∷ vs) [] i e h q c = absurd (omega arith)
  same_at_enter_all (v ∷ vs) (v' ∷ vs') zero e h q c = here q (coupled-enter_all vs vs' (omega arith) c)
  same_at_enter_all (v ∷ vs) (v' ∷ vs') (suc i) e h q c =
      there (same_at_enter_all vs vs' i (omega arith) (omega arith) q c)
