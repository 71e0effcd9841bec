-- The code's one table holds the powers of the root 17 in bit-reversed order, and the products' constants are its
-- second half, plus and minus, since 17^128 is -1.
use mathlib.Core.Path.{◌≡◌, ap, ◌∙◌}
use mathlib.Core.List.{List, [], ◌∷◌}
use Prim.Native.Nat.{ℕ, ◌+◌, ◌-◌, ◌*◌, ◌^◌, ◌<◌}
use native.Mathlib.Nat.{mod-lt}
use native.Mathlib.Omega.{arith}
use lib.Dec.{T, eqb, eqb→eq}
use lib.ListN.{get_or}
use Rattle.words.specs.Tab.{tab}
use Rattle.words.specs.TabLaws.{tabulated_at}
use Rattle.words.specs.Residue.{q}
use Rattle.words.specs.Table.{every}
use Rattle.words.specs.TableLaws.{every_at, table_tab}
use Rattle.words.specs.Numeral.{value}
use Rattle.words.specs.Digit.{digit}
use Rattle.transform.specs.Transform.{bit_rev7, zeta, gamma}

abbrev pub zetas : List ℕ
zetas =
    1 ∷ 1729 ∷ 2580 ∷ 3289 ∷ 2642 ∷ 630 ∷ 1897 ∷ 848 ∷ 1062 ∷ 1919 ∷ 193 ∷ 797 ∷ 2786 ∷ 3260 ∷ 569 ∷ 1746
    ∷ 296 ∷ 2447 ∷ 1339 ∷ 1476 ∷ 3046 ∷ 56 ∷ 2240 ∷ 1333 ∷ 1426 ∷ 2094 ∷ 535 ∷ 2882 ∷ 2393 ∷ 2879 ∷ 1974 ∷ 821
    ∷ 289 ∷ 331 ∷ 3253 ∷ 1756 ∷ 1197 ∷ 2304 ∷ 2277 ∷ 2055 ∷ 650 ∷ 1977 ∷ 2513 ∷ 632 ∷ 2865 ∷ 33 ∷ 1320 ∷ 1915
    ∷ 2319 ∷ 1435 ∷ 807 ∷ 452 ∷ 1438 ∷ 2868 ∷ 1534 ∷ 2402 ∷ 2647 ∷ 2617 ∷ 1481 ∷ 648 ∷ 2474 ∷ 3110 ∷ 1227 ∷ 910
    ∷ 17 ∷ 2761 ∷ 583 ∷ 2649 ∷ 1637 ∷ 723 ∷ 2288 ∷ 1100 ∷ 1409 ∷ 2662 ∷ 3281 ∷ 233 ∷ 756 ∷ 2156 ∷ 3015 ∷ 3050
    ∷ 1703 ∷ 1651 ∷ 2789 ∷ 1789 ∷ 1847 ∷ 952 ∷ 1461 ∷ 2687 ∷ 939 ∷ 2308 ∷ 2437 ∷ 2388 ∷ 733 ∷ 2337 ∷ 268 ∷ 641
    ∷ 1584 ∷ 2298 ∷ 2037 ∷ 3220 ∷ 375 ∷ 2549 ∷ 2090 ∷ 1645 ∷ 1063 ∷ 319 ∷ 2773 ∷ 757 ∷ 2099 ∷ 561 ∷ 2466 ∷ 2594
    ∷ 2804 ∷ 1092 ∷ 403 ∷ 1026 ∷ 1143 ∷ 2150 ∷ 2775 ∷ 886 ∷ 1722 ∷ 1212 ∷ 1874 ∷ 1029 ∷ 2110 ∷ 2935 ∷ 885 ∷ 2154 ∷ []

pub zetas-tab : zetas ≡ tab 128 zeta
unfolding zeta bit_rev7 value digit tab
zetas-tab = table_tab zeta zetas tt

-- ---- what is read of the table

module _ {l : List ℕ} (e : l ≡ tab 128 zeta) (i : ℕ) (h : i < 128) where
  pub root : get_or l i 0 ≡ zeta i
  root = tabulated_at 128 zeta e i 0 h

  pub root_below : get_or l i 0 < q
  unfolding zeta
  root_below = rw root (mod-lt (17 ^ bit_rev7 i) (omega arith))

-- ---- the products' constants, by 64 computed cases each

even_test : T (every 64 (λ j. eqb (gamma (2 * j)) (get_or zetas (64 + j) 0)))
unfolding gamma bit_rev7 value digit tab
even_test = tt

odd_test : T (every 64 (λ j. eqb (gamma (2 * j + 1)) (q - get_or zetas (64 + j) 0)))
unfolding gamma bit_rev7 value digit tab
odd_test = tt

pub gamma_even : (j : ℕ) → j < 64 → gamma (2 * j) ≡ zeta (64 + j)
gamma_even j h =
    eqb→eq _ _ (every_at 64 (λ j. eqb (gamma (2 * j)) (get_or zetas (64 + j) 0)) even_test j h)
    ∙ root zetas-tab (64 + j) (omega arith)

pub gamma_odd : (j : ℕ) → j < 64 → gamma (2 * j + 1) ≡ q - zeta (64 + j)
gamma_odd j h =
    eqb→eq _ _ (every_at 64 (λ j. eqb (gamma (2 * j + 1)) (q - get_or zetas (64 + j) 0)) odd_test j h)
    ∙ ap (λ (z : ℕ). q - z) (root zetas-tab (64 + j) (omega arith))
