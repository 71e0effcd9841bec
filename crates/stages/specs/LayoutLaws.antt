-- A loop that writes the parts of n elements of two slices, one for each share, part after part, or goes through them.
use Rattle.std.specs.Prelude.{◌≡◌, ℕ, ◌+◌, ◌-◌, ◌*◌, ◌<◌, ◌≤◌, length, take, drop}
use Rattle.std.proofs.Math.Path.{refl, ap}
use Rattle.std.proofs.Common.{ap₂, ◌∙◌, add-one, arith, length-take-le, take_at, drop_at}
use mathlib.Core.List.{List, [], ◌∷◌, ◌++◌}
use Rattle.words.specs.Part.{part_take, part_append, part_fits}
use Rattle.words.specs.Tab.{tab}
use Rattle.words.specs.TabLaws.{tab_cong}
use Rattle.worksheet.specs.SharedList.{SharedList, shared_list}
use Rattle.vectors.specs.Vector.{parts}
use Rattle.stages.specs.Layout.{part_of, parts_by}

-- l, its part i of n elements now r
abbrev pub stored : ℕ → ℕ → List ℕ → List ℕ → List ℕ
stored n i l r = take (n * i) l ++ (r ++ drop (n * i + n - n * i) (drop (n * i) l))

module _ (n i : ℕ) (l r : List ℕ) (h : n * i + n ≤ length l) (e : length r ≡ n) where
  front_long : length (take (n * i) l) ≡ n * i
  front_long = length-take-le (n * i) l (omega arith)

  parts-stored_other : (j : ℕ) → j < i → parts n (stored n i l r) j ≡ parts n l j
  parts-stored_other j g =
      part_append (n * j) n (take (n * i) l) _ (omega (arith, part_fits n g, front_long))
      ∙ part_take (n * j) n (n * i) l (part_fits n g)

  parts-stored_same : parts n (stored n i l r) i ≡ r
  parts-stored_same =
      ap (take n) (drop_at (take (n * i) l) (r ++ drop (n * i + n - n * i) (drop (n * i) l)) (n * i) front_long)
      ∙ take_at r (drop (n * i + n - n * i) (drop (n * i) l)) n e

module _ {A : Type 0} (f : SharedList → A) (n : ℕ) where
  pub parts_by_start : (z : SharedList) → parts_by f n 0 z ≡ []
  unfolding parts_by tab
  parts_by_start z = refl

  pub parts_by_suc : (i : ℕ) (z : SharedList) → parts_by f n (i + 1) z ≡ parts_by f n i z ++ f (part_of n z i) ∷ []
  unfolding parts_by tab
  parts_by_suc i z = rw (add-one i)

  pub parts_by_turn : (i : ℕ) (l m r s : List ℕ)
      → n * i + n ≤ length l → n * i + n ≤ length m → length r ≡ n → length s ≡ n
      → parts_by f n (i + 1) (shared_list (stored n i l r) (stored n i m s))
      ≡ parts_by f n i (shared_list l m) ++ f (shared_list r s) ∷ []
  unfolding parts_by tab
  parts_by_turn i l m r s h g d e =
      rw (add-one i)
      (ap₂ (λ (x : List A) (y : SharedList). x ++ f y ∷ [])
      (tab_cong i (λ j k.
      ap f (ap₂ shared_list (parts-stored_other n i l r h d j k) (parts-stored_other n i m s g e j k))))
      (ap₂ shared_list (parts-stored_same n i l r h d) (parts-stored_same n i m s g e)))
