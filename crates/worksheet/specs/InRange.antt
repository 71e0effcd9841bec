-- A count over all lists in range asks only of lists in range.
use Rattle.std.specs.Prelude.{ℕ, zero, suc, ◌<◌, ◌≡◌, refl, Bool, true, false, List, [], ◌∷◌, length, replicate}
use Rattle.std.proofs.Common.{ap}
use Rattle.words.specs.Bounded.{Below}
use Rattle.words.specs.BoundedLaws.{below_nil, below_cons}
use Rattle.worksheet.specs.Sum.{when}
use Rattle.worksheet.specs.SumLaws.{sum_cong}
use Rattle.worksheet.specs.Count.{tally}
use Rattle.worksheet.specs.CountLaws.{tally_zero}

pub tally-below : (n b : ℕ) → 0 < b → {f g : List ℕ → ℕ} → ((xs : List ℕ) → length xs ≡ n → Below b xs → f xs ≡ g xs)
    → tally (replicate n b) f ≡ tally (replicate n b) g
unfolding tally
tally-below zero b p h = h [] refl (below_nil p)
tally-below (suc n) b p h = sum_cong b (λ x l. tally-below n b p (λ xs e w. h (x ∷ xs) (ap suc e) (below_cons l w)))

pub tally-when : (b : Bool) (bs : List ℕ) (f : List ℕ → ℕ) → tally bs (λ xs. when b (f xs)) ≡ when b (tally bs f)
tally-when true bs f = refl
tally-when false bs f = tally_zero bs
