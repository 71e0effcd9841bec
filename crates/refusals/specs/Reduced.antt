-- Document 01, Refusals by place: coefficients that are below q.
use Rattle.std.specs.Prelude.{Bool, true, ◌&&◌, List, [], ◌∷◌, ℕ, ltb}
use Rattle.words.specs.Residue.{q}

unfoldable pub reduced : List ℕ → Bool
reduced [] = true
reduced (x ∷ l) = ltb x q && reduced l
