-- Stage 8: the equal bit is 1 exactly where the ciphertext is the one whose planes are shared.
use Rattle.std.specs.Prelude.{◌≡◌, refl, true, false, List, T}
use Rattle.std.proofs.Common.{sym, ◌∙◌, arith, ext_get_or}
use Rattle.std.proofs.Math.Path.{ap, subst}
use Rattle.std.proofs.Math.Bool.{Bool, cond}
use Prim.Native.Nat.{ℕ, zero, suc, ◌-◌}
use Rattle.std.proofs.Math.ListN.{get_or}
use Rattle.words.specs.Word.{xor}
use Rattle.words.specs.WordLaws.{xor_same, xor_zero, xor_cancel}
use Rattle.words.specs.Table.{every}
use Rattle.words.specs.TableLaws.{every_at, every_true}
use Rattle.worksheet.specs.Shares.{Shares}
use Rattle.worksheet.specs.Gives.{Gives, gives_bind, gives_weaken}
use Rattle.worksheet.specs.Sharing.{none}
use Rattle.worksheet.specs.SharingLaws.{Sharing}
use Rattle.masked_comparison.specs.ComparisonLaws.{is_zero, gives-add_public, gives-all_zero}
use Rattle.parameters.specs.declared.Parameters.{Parameters}
use Rattle.refusals.specs.Same.{same}
use Rattle.refusals.specs.SameLaws.{same_refl, same_true}
use Rattle.parameters.specs.Fits.{Fits}
use Rattle.stages.specs.Worksheet.{ciphertext_planes, word_count, stage8}
use Rattle.meaning.specs.StageSharing.{SharingList}
use Rattle.stages.specs.PlanesLaws.{below-ciphertext_planes}
use Rattle.meaning.specs.CiphertextPlanes.{Ciphertext, length_ciphertext_planes}
use Rattle.meaning.specs.CiphertextPlanes.{ext_ciphertext_planes}

-- ---- tests

iff : (a b : Bool) → (a ≡ true → b ≡ true) → (b ≡ true → a ≡ true) → a ≡ b
iff true b f g = sym (f refl)
iff false true f g = g refl
iff false false f g = refl

is_zero_true : (x : ℕ) → T (is_zero x) → x ≡ 0
is_zero_true zero t = refl
is_zero_true (suc x) t = absurd t

xor_eq_zero : (x y : ℕ) → xor x y ≡ 0 → x ≡ y
xor_eq_zero x y e = sym (sym (xor_cancel x y) ∙ ap (xor x) e ∙ xor_zero x)

module _ (p : Parameters) {c d : List ℕ} (a : Ciphertext p c) (b : Ciphertext p d) where
  -- the words that are folded
  abbrev difference : ℕ → ℕ
  difference j = xor (get_or (ciphertext_planes p d) j 0) (get_or (ciphertext_planes p c) j 0)

  abbrev all_equal : Bool
  all_equal = every (word_count p) (λ j. is_zero (difference j))

  equal_ciphertexts : T all_equal → d ≡ c
  equal_ciphertexts t =
      ext_ciphertext_planes p b a
      (ext_get_or 0 (ciphertext_planes p d) (ciphertext_planes p c)
      (length_ciphertext_planes p d ∙ sym (length_ciphertext_planes p c))
      (λ j h.
      xor_eq_zero (get_or (ciphertext_planes p d) j 0) (get_or (ciphertext_planes p c) j 0)
      (is_zero_true (difference j)
      (every_at (word_count p) (λ j. is_zero (difference j)) t j (omega (arith, length_ciphertext_planes p d))))))

  zero_at : c ≡ d → (j : ℕ) → is_zero (difference j) ≡ true
  zero_at e j =
      ap is_zero
      (ap (λ (l : List ℕ). xor (get_or (ciphertext_planes p d) j 0) (get_or (ciphertext_planes p l) j 0)) e
      ∙ xor_same (get_or (ciphertext_planes p d) j 0))

  equal_words : all_equal ≡ same c d
  equal_words =
      iff all_equal (same c d)
      (λ e. ap (same c) (equal_ciphertexts (subst T (sym e) tt)) ∙ same_refl c)
      (λ e. every_true (word_count p) (λ j. is_zero (difference j)) (λ j h. zero_at (same_true c d e) j))

  pub gives-stage8 : Fits p → {w : List Shares} → SharingList (ciphertext_planes p d) w
      → Gives (Sharing 1 (cond (same c d) 1 0)) (stage8 p c w)
  unfolding stage8
  gives-stage8 fits {w} s =
      let n : suc (word_count p - 1) ≡ word_count p = omega (arith, fits.dv.least) in
      let bit : Bool → ℕ = λ b. cond b 1 0 in
      gives_bind
      (gives-add_public (word_count p) (λ j. get_or (ciphertext_planes p c) j 0)
      (λ j. get_or (ciphertext_planes p d) j 0)
      (λ j. get_or w j none)
      (λ j l. record { lt = (below-ciphertext_planes p c).at j })
      (λ j l. s.each.at none j (omega (arith, length_ciphertext_planes p d))))
      (λ x e.
      gives_weaken
      (λ z r.
      subst (λ (y : ℕ). Sharing 1 y z)
      (ap (λ (m : ℕ). bit (every m (λ j. is_zero (difference j)))) n ∙ ap bit equal_words) r)
      (gives-all_zero (word_count p - 1) difference (λ j. get_or x j none) (λ j l. e.at none j (omega arith))))
