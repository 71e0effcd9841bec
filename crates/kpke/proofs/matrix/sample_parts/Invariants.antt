-- Turn i samples part i where the first i parts end if there is enough for it, and says no where there isn't: so yes
-- means that all k parts are in place.
use Rattle.std.proofs.Common.{◌≡◌, List, Bool, ℕ, ◌<◌, ◌*◌, length}
use Rattle.sampling.specs.Results.{Sampling}
use Rattle.kpke.proofs.Sampled.{Sampled}
use Rattle.kpke.proofs.matrix.sample_parts.Given as goal

-- i parts written, each from enough
abbrev pub invariant-loop-i : goal.invariant-loop-i
invariant-loop-i g l =
    (length l.a ≡ l.n * l.k)
    × ((enough : ℕ → Bool) (v : ℕ → List ℕ)
    → ((j : ℕ) (part left : _) (r : _) → j < l.k → length part.now ≡ l.n → goal.F-post g l.f j part r left
    → Sampling (enough j) (v j) r left.now)
    → Sampled l.n l.k enough v l.initial.a l.i l.a)
