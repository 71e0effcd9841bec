-- Turn i gives f the part i, which no earlier turn has touched, so that k turns write each part once.
use Rattle.std.proofs.Common.{◌≡◌, ℕ, ◌<◌, ◌*◌, length}
use Rattle.slices.specs.Parts.{parts}
use Rattle.slices.proofs.Concatenated.{Concatenated}
use Rattle.slices.proofs.write_parts.Given as goal

-- the first i parts are what f gave of them
abbrev pub invariant-loop-i : goal.invariant-loop-i
invariant-loop-i g l =
    (length l.out ≡ l.n * l.k)
    × ((v : _)
    → ((j : ℕ) (part left : _) → j < l.k → part.now ≡ parts l.n l.initial.out j → goal.F-post g l.f j part tt left
    → left.now ≡ v j)
    → Concatenated l.n l.k v l.initial.out l.i l.out)
