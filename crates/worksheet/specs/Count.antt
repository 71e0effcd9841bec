-- Sums over all strips, and whether an entry has a value.
use Rattle.std.specs.Prelude.{ℕ, zero, suc, List, [], ◌∷◌, eqb, replicate}
use Rattle.worksheet.specs.Prog.{word, coeff, bound}
use Rattle.worksheet.specs.Sum.{sum, when}

-- the sum of f over all lists whose elements are below the bounds
unfoldable pub tally : List ℕ → (List ℕ → ℕ) → ℕ
tally [] f = f []
tally (b ∷ bs) f = sum b (λ x. tally bs (λ xs. f (x ∷ xs)))

-- the sum of f over all strips of w words and c coefficients
abbrev pub strips : ℕ → ℕ → (List ℕ → List ℕ → ℕ) → ℕ
strips w c f = tally (replicate w (bound word)) (λ ws. tally (replicate c (bound coeff)) (λ cs. f ws cs))

-- 1 where entry i of l is v, else 0; 0 where there is no entry i
unfoldable pub hit : ℕ → ℕ → List ℕ → ℕ
hit i v [] = 0
hit zero v (w ∷ l) = when (eqb w v) 1
hit (suc i) v (w ∷ l) = hit i v l
