-- The steps row by row are FIPS 202's: theta, rho and chi read five rows, do something to each and put them together,
-- and the 25 lanes that come of it are those of the definition.
use mathlib.Core.Path.{◌≡◌, ◌∙◌}
use mathlib.Core.List.{List, [], ◌∷◌}
use Prim.Native.Nat.{ℕ, zero, suc}
use Rattle.words.specs.Tab.{tab}
use Rattle.words.specs.Iterate.{iterate}
use Rattle.keccak.specs.KeccakP.{effect, theta, walk, offset, rho, pi, chi}
use Rattle.keccak.specs.Rows.{rows_of, from_rows, xor_row, parity_row, effect_row, rotl_row, chi_row}
use Rattle.keccak.specs.declared.row.Row.{Row}
use Rattle.keccak.specs.declared.state.Rows.{Rows}

-- row y with its offsets
abbrev rho_row : ℕ → Row → Row
rho_row zero p = rotl_row p 0 1 62 28 27
rho_row (suc zero) p = rotl_row p 36 44 6 55 20
rho_row (suc (suc zero)) p = rotl_row p 3 10 43 25 39
rho_row (suc (suc (suc zero))) p = rotl_row p 41 45 15 21 8
rho_row (suc (suc (suc (suc y)))) p = rotl_row p 18 2 61 56 14

-- ---- the calls of each step on the rows p of l

module _ (l : List ℕ) {p : Rows} (o : p ≡ rows_of l) where
  -- f y is done to row y, and t is put together
  rowwise : (f : ℕ → Row → Row) {r0 r1 r2 r3 r4 : Row} {t : List ℕ}
      → r0 ≡ f 0 p.y0 → r1 ≡ f 1 p.y1 → r2 ≡ f 2 p.y2 → r3 ≡ f 3 p.y3 → r4 ≡ f 4 p.y4
      → t ≡ from_rows r0 r1 r2 r3 r4
      → t ≡ (let s = rows_of l in from_rows (f 0 s.y0) (f 1 s.y1) (f 2 s.y2) (f 3 s.y3) (f 4 s.y4))
  rowwise f h0 h1 h2 h3 h4 w = rw (w, h0, h1, h2, h3, h4, o)

  -- c is the row of parities C, and d is D: what is added to each row
  pub theta_calls : {c d r0 r1 r2 r3 r4 : Row} {t : List ℕ} → c ≡ parity_row p → d ≡ effect_row c
      → r0 ≡ xor_row p.y0 d → r1 ≡ xor_row p.y1 d → r2 ≡ xor_row p.y2 d → r3 ≡ xor_row p.y3 d
      → r4 ≡ xor_row p.y4 d → t ≡ from_rows r0 r1 r2 r3 r4 → t ≡ theta l
  unfolding theta tab effect
  theta_calls {d = d} ec ed h0 h1 h2 h3 h4 w = rowwise (λ y r. xor_row r d) h0 h1 h2 h3 h4 w ∙ rw (ed, ec, o)

  pub rho_calls : {r0 r1 r2 r3 r4 : Row} {t : List ℕ}
      → r0 ≡ rho_row 0 p.y0 → r1 ≡ rho_row 1 p.y1 → r2 ≡ rho_row 2 p.y2 → r3 ≡ rho_row 3 p.y3
      → r4 ≡ rho_row 4 p.y4 → t ≡ from_rows r0 r1 r2 r3 r4 → t ≡ rho l
  unfolding rho tab offset walk iterate
  rho_calls h0 h1 h2 h3 h4 w = rowwise rho_row h0 h1 h2 h3 h4 w

  pub pi_calls : p.y0.a ∷ p.y1.b ∷ p.y2.c ∷ p.y3.d ∷ p.y4.e
      ∷ p.y0.d ∷ p.y1.e ∷ p.y2.a ∷ p.y3.b ∷ p.y4.c
      ∷ p.y0.b ∷ p.y1.c ∷ p.y2.d ∷ p.y3.e ∷ p.y4.a
      ∷ p.y0.e ∷ p.y1.a ∷ p.y2.b ∷ p.y3.c ∷ p.y4.d
      ∷ p.y0.c ∷ p.y1.d ∷ p.y2.e ∷ p.y3.a ∷ p.y4.b ∷ []
      ≡ pi l
  unfolding pi tab
  pi_calls = rw o

  pub chi_calls : {r0 r1 r2 r3 r4 : Row} {t : List ℕ}
      → r0 ≡ chi_row p.y0 → r1 ≡ chi_row p.y1 → r2 ≡ chi_row p.y2 → r3 ≡ chi_row p.y3 → r4 ≡ chi_row p.y4
      → t ≡ from_rows r0 r1 r2 r3 r4 → t ≡ chi l
  unfolding chi tab
  chi_calls h0 h1 h2 h3 h4 w = rowwise (λ y. chi_row) h0 h1 h2 h3 h4 w
