-- A sum over all lists in range stays the same where the element at each place is moved by a permutation of the range:
-- each place's own sum does.
use Rattle.std.specs.Prelude.{ℕ, zero, suc, ◌≡◌, refl, List, ◌∷◌, get_or, replicate}
use Rattle.std.proofs.Common.{ap, ◌∙◌}
use Rattle.words.specs.Tab.{tab}
use Rattle.words.specs.TabLaws.{tab_cons}
use Rattle.worksheet.specs.SumLaws.{Perm, sum_cong, sum-perm}
use Rattle.worksheet.specs.Count.{tally}
use Rattle.worksheet.specs.CountLaws.{tally_cong}

pub tally_moved : {b : ℕ} (n : ℕ) (π : ℕ → Perm b) (f : List ℕ → ℕ)
    → tally (replicate n b) (λ xs. f (tab n (λ i. (π i).to (get_or xs i 0)))) ≡ tally (replicate n b) f
unfolding tally tab
tally_moved zero π f = refl
tally_moved {b} (suc n) π f =
    sum_cong b (λ x l.
    tally_cong (replicate n b) (λ xs. ap f (tab_cons n (λ i. (π i).to (get_or (x ∷ xs) i 0))))
    ∙ tally_moved n (λ i. π (suc i)) (λ ys. f ((π 0).to x ∷ ys)))
    ∙ sum-perm b (π 0) (λ y. tally (replicate n b) (λ ys. f (y ∷ ys)))
