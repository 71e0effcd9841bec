-- What the functions ask of a depth, a shift and the buffers lent to them.
use Rattle.std.specs.Prelude.{◌≡◌, List, ℕ, ◌<◌, ◌≤◌, length}

-- a step of the transposition by s places, from the rows w to the rows o
pub record StepLent (s : ℕ) (w o : List ℕ) : Type 0 where
  pub shift : s < 64
  pub rows : length w ≡ 32
  pub result : length o ≡ 32

-- 64 coefficients f, and their d lowest planes
pub record PlanesLent (f : List ℕ) (d : ℕ) (out : List ℕ) : Type 0 where
  pub numbers : length f ≡ 64
  pub planes : length out ≡ d
  pub depth : d ≤ 24
