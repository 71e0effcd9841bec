-- Turn by turn one coefficient becomes what g gives of it; the others are still as they were.
use Rattle.std.proofs.Common.{◌≡◌, ℕ, ◌<◌, ◌≤◌, length, get_or}
use Rattle.ring.proofs.polynomial.map_coefficients.Given as goal

-- the first coefficients are what g gave of those of before
abbrev pub invariant-loop-x : goal.invariant-loop-x
invariant-loop-x g l =
    (length l.f ≡ length l.initial.f)
    × ((k : ℕ) → k < l.x-index → goal.G-post g l.g (get_or l.initial.f k 0) (get_or l.f k 0))
    × ((k : ℕ) → l.x-index ≤ k → get_or l.f k 0 ≡ get_or l.initial.f k 0)
