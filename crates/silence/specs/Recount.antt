-- A stage's entries counted by another formula.
use Rattle.std.specs.Prelude.{ℕ, ◌≡◌}
use Rattle.worksheet.specs.Prog.{Prog}
use Rattle.worksheet.specs.Stage.{Stage}

pub stage_recount : {A B C D E F : Type 0} {R : E → A → B → Type 0} {S : F → C → D → Type 0} {m n : ℕ} {f : A → Prog C}
    {f' : B → Prog D} → m ≡ n → Stage R S m f f' → Stage R S n f f'
stage_recount e s = rw e at s
