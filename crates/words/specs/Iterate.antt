-- n turns of a step.
use Rattle.std.specs.Prelude.{ℕ, zero, suc}

module _ {A : Type 0} where
  -- f 0, f 1, .., f (n - 1), one after the other, from s
  unfoldable pub iterate : ℕ → (ℕ → A → A) → A → A
  iterate zero f s = s
  iterate (suc n) f s = f n (iterate n f s)
