-- What the one function behind decapsulation and trace answers and leaves, which is told `left`.
use Rattle.std.specs.Prelude.{◌≡◌, List, ℕ, length}
use Rattle.refusals.specs.Refusals.{number, after}
use Rattle.tracing.specs.Told as told
use Rattle.parameters.specs.declared.Edition.{Edition}
use Rattle.parameters.specs.declared.Parameters.{Parameters}
use Rattle.decapsulation_run.specs.Input.{Input, range_rows, sheet}

module _ (e : Edition) (p : Parameters) where
  pub record Told (left : ℕ) (g : Input) (k0 k1 : List ℕ) (v n : ℕ) (k0' k1' : List ℕ) (v' : ℕ) : Type 0 where
    pub answer : n ≡ number (told.told_answer (range_rows p g) (length (sheet e p g).entries) left)
    pub share0 : k0' ≡ after n (sheet e p g).value.s0 k0
    pub share1 : k1' ≡ after n (sheet e p g).value.s1 k1
    pub value : v' ≡ after n (told.told_value left (sheet e p g).entries) v
