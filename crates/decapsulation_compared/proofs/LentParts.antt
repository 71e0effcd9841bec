-- Parts of slices that are lent on: the coins, the last four of stage 3's eight words, and what is left of a slice.
use mathlib.Core.Path.{◌≡◌, refl, sym, ap, ap₂, ◌∙◌, subst}
use mathlib.Core.List.{List}
use Prim.Native.Nat.{ℕ, ◌+◌, ◌-◌, ◌≤◌}
use native.Mathlib.Omega.{arith}
use lib.ListN.{length, get_or, take, drop, length-drop}
use lib.Seq.{get_or-take, get_or-drop, length-take-le}
use Rattle.words.specs.Part.{length_part, part_rest}
use Rattle.words.specs.Tab.{tab}
use Rattle.words.specs.TabLaws.{tab_of}
use Rattle.worksheet.specs.SharedList.{shared_list, unzip}
use Rattle.parameters.specs.declared.Parameters.{Parameters}
use Rattle.parameters.specs.Lengths.{vector_bytes, ek_bytes}
use Rattle.kpke.specs.Expanded.{Expanded}
use Rattle.stages.specs.Moves.{coins_of}
use Rattle.stages.specs.Lent.{Long}

last_four : (l : List ℕ) → length l ≡ 8 → take 4 (drop 4 l) ≡ tab 4 (λ i. get_or l (4 + i) 0)
last_four l e =
    tab_of 0 (take 4 (drop 4 l)) 4 (length_part 4 4 l (omega arith))
    (λ i h. get_or-take 4 (drop 4 l) i 0 h ∙ get_or-drop 4 l i 0)

module _ (l m : List ℕ) (g : Long 8 (shared_list l m)) where
  pub coins_part : shared_list (take 4 (drop 4 l)) (take 4 (drop 4 m)) ≡ coins_of (shared_list l m)
  unfolding unzip
  coins_part = ap₂ shared_list (last_four l g.long0) (last_four m g.long1)

  pub coins_long : Long 4 (shared_list (take 4 (drop 4 l)) (take 4 (drop 4 m)))
  coins_long =
      record {
        long0 = length_part 4 4 l (omega (arith, g.long0));
        long1 = length_part 4 4 m (omega (arith, g.long1));
      }

-- ---- parts whose length the code counts, h, which is n

module _ {h n : ℕ} (l : List ℕ) (e : h ≡ n) where
  -- the first, lent as the part from 0 to h
  pub front_counted : take (h - 0) (drop 0 l) ≡ take n l
  front_counted = let z : h - 0 ≡ n = omega arith in rw z refl

  pub length_front : n ≤ length l → length (take (h - 0) (drop 0 l)) ≡ n
  length_front g = ap length front_counted ∙ length-take-le n l g

  -- and what is left behind it
  pub rest_counted : take (length l - h) (drop h l) ≡ drop n l
  rest_counted = part_rest h l ∙ ap (λ (i : ℕ). drop i l) e

  pub length_counted : (m : ℕ) → length l ≡ n + m → length (take (length l - h) (drop h l)) ≡ m
  length_counted m g = ap length rest_counted ∙ length-drop n l ∙ omega arith

-- the matrix of a public key that is lent so
pub expanded_front : (p : Parameters) {h : ℕ} {a : List ℕ} (public : List ℕ) → h ≡ ek_bytes p
    → Expanded p.k (drop (vector_bytes p) (take (ek_bytes p) public)) a
    → Expanded p.k (drop (vector_bytes p) (take (h - 0) (drop 0 public))) a
expanded_front p {a = a} public e x =
    subst (λ (l : List ℕ). Expanded p.k (drop (vector_bytes p) l) a) (sym (front_counted public e)) x
