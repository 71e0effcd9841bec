-- Turn i puts what f gives of i at place i, so that after one turn a place each element is what f gave of its place.
use Rattle.std.proofs.Common.{◌≡◌, ℕ, ◌<◌, length, get_or}
use Rattle.slices.proofs.tabulate.Given as goal

-- the first i elements are what f gave
abbrev pub invariant-loop-i : goal.invariant-loop-i
invariant-loop-i g l =
    (length l.out ≡ length l.initial.out)
    × ((k : ℕ) → k < l.i → (d : _) → goal.F-post g l.f k (get_or l.out k d))
