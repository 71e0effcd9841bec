-- Rho, as a part of the stored public key, and the matrix that the code expands from it.
use mathlib.Core.Path.{◌≡◌, sym, ◌∙◌, subst}
use mathlib.Core.Bool.{true}
use mathlib.Core.List.{List}
use Prim.Native.Nat.{ℕ, ◌+◌, ◌-◌}
use native.Mathlib.Omega.{arith}
use lib.ListN.{length, take, drop, length-take, length-drop}
use lib.Seq.{take_all}
use Rattle.words.specs.Part.{part_take}
use Rattle.vectors.specs.Vector.{concat}
use Rattle.kpke.specs.KPke.{matrix, matrix_full}
use Rattle.kpke.specs.Expanded.{Expanded, expanded-concat}

-- the 32 bytes behind the first n, where the code counts r for n
module _ {r n : ℕ} (l : List ℕ) (e : r ≡ n) (g : length l ≡ n + 32 + 32) where
  pub rho_part : take (r + 32 - r) (drop r l) ≡ drop n (take (n + 32) l)
  rho_part =
      let w : r + 32 - r ≡ 32 = omega arith in
      rw (w, e)
      (sym (part_take n 32 (n + 32) l (omega arith))
      ∙ take_all 32 (drop n (take (n + 32) l)) (omega (arith, length-drop n (take (n + 32) l), length-take (n + 32) l)))

  pub expanded_public : (k : ℕ) (a : List ℕ) → matrix_full k (take (r + 32 - r) (drop r l)) ≡ true
      → a ≡ concat k (λ i. concat k (matrix (take (r + 32 - r) (drop r l)) i))
      → Expanded k (drop n (take (n + 32) l)) a
  expanded_public k a t h =
      let rho = take (r + 32 - r) (drop r l) in
      subst (λ (s : List ℕ). Expanded k s a) rho_part
      (subst (Expanded k rho) (sym h) (expanded-concat k rho t))
