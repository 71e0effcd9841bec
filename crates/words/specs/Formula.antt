-- Identities of xor and and, for every width at once. A formula stands for a word made of other words; two formulas
-- that agree on all zeros and ones of their words, which is computed, agree on all words.
use Rattle.std.specs.Prelude.{◌≡◌, refl, List, [], ◌∷◌, map, Bool, true, false, ◌&&◌, ◌⊎◌, length, get_or, T}
use Rattle.std.proofs.Math.Path.{sym, ap₂}
use Rattle.std.proofs.Common.{◌∙◌, inl, inr, mod-lt}
use Prim.Native.Nat.{ℕ, zero, suc, ◌+◌, ◌*◌, ◌/◌, ◌%◌, ◌≤◌, ◌<◌, min, max}
use Rattle.std.proofs.Math.Nat.{div-add-mod'}
use native.Mathlib.Omega.{arith}
use Rattle.std.proofs.lemmas.List.{length-map}
use Rattle.std.proofs.Math.ListN.{get_or-map}
use Rattle.std.proofs.Math.Dec.{eqb, eqb→eq}
use Rattle.std.proofs.Math.Arith.{half_le}
use Rattle.std.specs.Int.Bits.{differ}
use Rattle.std.proofs.lemmas.Nat.{xor_shr, xor_mod, and_shr, and_mod}
use Rattle.words.specs.Word.{xor, and}

infixl 60 ◌⊕◌
infixl 70 ◌⊗◌
pub data Formula : Type 0 where
  at : ℕ → Formula
  ◌⊕◌ ◌⊗◌ : Formula → Formula → Formula

-- a formula's value on words
abbrev pub on_words : Formula → List ℕ → ℕ
on_words (at i) ρ = get_or ρ i 0
on_words (e ⊕ f) ρ = xor (on_words e ρ) (on_words f ρ)
on_words (e ⊗ f) ρ = and (on_words e ρ) (on_words f ρ)

-- and on single bits
abbrev pub on_bits : Formula → List ℕ → ℕ
on_bits (at i) ρ = get_or ρ i 0
on_bits (e ⊕ f) ρ = differ (on_bits e ρ) (on_bits f ρ)
on_bits (e ⊗ f) ρ = min (on_bits e ρ) (on_bits f ρ)

half : ℕ → ℕ
half x = x / 2

odd : ℕ → ℕ
odd x = x % 2

zero_or_one : (x : ℕ) → (odd x ≡ 0) ⊎ (odd x ≡ 1)
unfolding odd
zero_or_one x = go (x % 2) (mod-lt x (omega arith))
  where
    go : (d : ℕ) → d < 2 → (d ≡ 0) ⊎ (d ≡ 1)
    go zero h = inl refl
    go (suc zero) h = inr refl
    go (suc (suc d)) h = absurd (omega arith)

-- the last bit of a result
pub xor_odd : (a b : ℕ) → xor a b % 2 ≡ differ (a % 2) (b % 2)
unfolding odd xor
xor_odd a b = xor_mod a b 1 ∙ go (zero_or_one a) (zero_or_one b)
  where
    go : (odd a ≡ 0) ⊎ (odd a ≡ 1) → (odd b ≡ 0) ⊎ (odd b ≡ 1) → xor (odd a) (odd b) ≡ differ (odd a) (odd b)
    go (inl p) q = rw p
    go (inr p) (inl q) = rw (p, q)
    go (inr p) (inr q) = rw (p, q)

pub and_odd : (a b : ℕ) → and a b % 2 ≡ min (a % 2) (b % 2)
unfolding odd and
and_odd a b = and_mod a b 1 ∙ go (zero_or_one a) (zero_or_one b)
  where
    go : (odd a ≡ 0) ⊎ (odd a ≡ 1) → (odd b ≡ 0) ⊎ (odd b ≡ 1) → and (odd a) (odd b) ≡ min (odd a) (odd b)
    go (inl p) (inl q) = rw (p, q)
    go (inl p) (inr q) = rw (p, q)
    go (inr p) (inl q) = rw (p, q)
    go (inr p) (inr q) = rw (p, q)

-- a formula works on the last bits and on the rest apart
formula-odd : (e : Formula) (ρ : List ℕ) → odd (on_words e ρ) ≡ on_bits e (map odd ρ)
unfolding odd
formula-odd (at i) ρ = sym (get_or-map odd ρ i 0)
formula-odd (e ⊕ f) ρ = xor_odd (on_words e ρ) (on_words f ρ) ∙ ap₂ differ (formula-odd e ρ) (formula-odd f ρ)
formula-odd (e ⊗ f) ρ = and_odd (on_words e ρ) (on_words f ρ) ∙ ap₂ min (formula-odd e ρ) (formula-odd f ρ)

formula-half : (e : Formula) (ρ : List ℕ) → half (on_words e ρ) ≡ on_words e (map half ρ)
unfolding half xor and
formula-half (at i) ρ = sym (get_or-map half ρ i 0)
formula-half (e ⊕ f) ρ = xor_shr (on_words e ρ) (on_words f ρ) 1 ∙ ap₂ xor (formula-half e ρ) (formula-half f ρ)
formula-half (e ⊗ f) ρ = and_shr (on_words e ρ) (on_words f ρ) 1 ∙ ap₂ and (formula-half e ρ) (formula-half f ρ)

-- a test holds of all lists of n bits
abbrev pub on_all_bits : ℕ → (List ℕ → Bool) → Bool
on_all_bits zero p = p []
on_all_bits (suc n) p = on_all_bits n (λ l. p (0 ∷ l)) && on_all_bits n (λ l. p (1 ∷ l))

both : (a b : Bool) → T (a && b) → T a × T b
both true b h = (tt, h)
both false b h = absurd h

on_all_bits_at : (p : List ℕ → Bool) (ρ : List ℕ) → T (on_all_bits (length ρ) p) → T (p (map odd ρ))
on_all_bits_at p [] h = h
on_all_bits_at p (x ∷ ρ) h =
    let b = both (on_all_bits (length ρ) (λ l. p (0 ∷ l))) (on_all_bits (length ρ) (λ l. p (1 ∷ l))) h in
    go (zero_or_one x) (on_all_bits_at (λ l. p (0 ∷ l)) ρ b.0) (on_all_bits_at (λ l. p (1 ∷ l)) ρ b.1)
  where
    go : (odd x ≡ 0) ⊎ (odd x ≡ 1) → T (p (0 ∷ map odd ρ)) → T (p (1 ∷ map odd ρ)) → T (p (odd x ∷ map odd ρ))
    go (inl e) h₀ h₁ = rw e h₀
    go (inr e) h₀ h₁ = rw e h₁

-- the test
abbrev pub agree : Formula → Formula → List ℕ → Bool
agree e f ρ = on_all_bits (length ρ) (λ l. eqb (on_bits e l) (on_bits f l))

agree-half : (e f : Formula) (ρ : List ℕ) → T (agree e f ρ) → T (agree e f (map half ρ))
agree-half e f ρ t = rw (length-map ρ half) t

module _ (e f : Formula) where
  up_to : (k : ℕ) (ρ : List ℕ) → T (agree e f ρ) → on_words e ρ ≤ k → on_words f ρ ≤ k → on_words e ρ ≡ on_words f ρ
  unfolding half odd
  up_to zero ρ t h g = omega arith
  up_to (suc k) ρ t h g =
      sym (div-add-mod' (on_words e ρ) 2)
      ∙ ap₂ (λ (x y : ℕ). x * 2 + y)
      (formula-half e ρ
      ∙ up_to k (map half ρ) (agree-half e f ρ t) (rw (← formula-half e ρ) (half_le h))
      (rw (← formula-half f ρ) (half_le g))
      ∙ sym (formula-half f ρ))
      (formula-odd e ρ ∙ eqb→eq _ _ (on_all_bits_at (λ l. eqb (on_bits e l) (on_bits f l)) ρ t) ∙ sym (formula-odd f ρ))
      ∙ div-add-mod' (on_words f ρ) 2

  pub boole : (ρ : List ℕ) → T (agree e f ρ) → on_words e ρ ≡ on_words f ρ
  boole ρ t = up_to (max (on_words e ρ) (on_words f ρ)) ρ t (omega arith) (omega arith)
