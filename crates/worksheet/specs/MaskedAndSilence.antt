-- Couplings of And: its result can be set apart by any difference, and an entry asks at most for one share of u and one
-- of v.
use Rattle.std.specs.Prelude.{ℕ, zero, suc, ◌<◌, ◌≤◌, ◌≡◌, Bool, true, List, [], ◌∷◌, ltb, get_or}
use Rattle.std.proofs.Math.Path.{refl}
use Rattle.std.proofs.Common.{ap₂, ◌∙◌, arith}
use Rattle.words.specs.Word.{xor, and}
use Rattle.words.specs.Bits.{Bits}
use Rattle.words.specs.WordLaws.{xor-bits, and-bits, zero_bits}
use Rattle.words.specs.Formula.{boole, at, ◌⊕◌}
use Rattle.worksheet.specs.Shares.{Shares}
use Rattle.worksheet.specs.Prog.{◌>>=◌, mask, mask_low, entry}
use Rattle.worksheet.specs.Couple.{Coupled, ret_c, draw_c, Like, SameAt}
use Rattle.worksheet.specs.Matching.{identity, coupled-mask_low, same_at_mask_low}
use Rattle.worksheet.specs.Straight.{coupled-enter_all, same_at_enter_all}
use Rattle.worksheet.specs.Sharing.{shares}
use Rattle.worksheet.specs.SharingLaws.{share, Sharing, Apart}
use Rattle.worksheet.specs.MaskedAnd.{masked_and}
use Rattle.worksheet.specs.EntryCounts.{and_entries}
use Rattle.worksheet.specs.MaskedAndLaws.{joined_and}

-- its entries and its result with the mask r
abbrev entries : ℕ → Shares → Shares → List ℕ
entries r u v =
    and u.s0 v.s1 ∷ xor (and u.s0 v.s1) r
    ∷ and u.s0 v.s0 ∷ xor (and u.s0 v.s0) (xor (and u.s0 v.s1) r)
    ∷ and u.s1 v.s0 ∷ xor (and u.s1 v.s0) r
    ∷ and u.s1 v.s1 ∷ xor (and u.s1 v.s1) (xor (and u.s1 v.s0) r) ∷ []

abbrev result : ℕ → Shares → Shares → Shares
result r u v = shares (get_or (entries r u v) 3 0) (get_or (entries r u v) 7 0)

pub like-masked_and : (w : ℕ) (u v u' v' : Shares) → Like and_entries (masked_and w u v) (masked_and w u' v')
unfolding masked_and mask_low mask entry ◌>>=◌ identity
like-masked_and w u v u' v' =
    draw_c identity (λ x h. coupled-enter_all (entries _ u v) (entries _ u' v') refl (ret_c tt))

pub sharing-result : {n X Y r : ℕ} {u v : Shares} → Sharing n X u → Sharing n Y v → Bits n r
    → Sharing n (and X Y) (result r u v)
sharing-result {r = r} {u = u} {v = v} s t b =
    record {
      bits0 = xor-bits (and-bits s.bits0 t.bits0) (xor-bits (and-bits s.bits0 t.bits1) b);
      bits1 = xor-bits (and-bits s.bits1 t.bits1) (xor-bits (and-bits s.bits1 t.bits0) b);
      joins = joined_and u.s0 u.s1 v.s0 v.s1 r ∙ ap₂ and s.joins t.joins;
    }

-- the masks that make one entry, or a sum of two, equal or differ by d
same_one : (a a' r : ℕ) → xor a r ≡ xor a' (xor r (xor a a'))
same_one a a' r = boole (at 0 ⊕ at 2) (at 1 ⊕ (at 2 ⊕ (at 0 ⊕ at 1))) (a ∷ a' ∷ r ∷ []) tt

same_two : (a b a' b' r : ℕ) → xor a (xor b r) ≡ xor a' (xor b' (xor r (xor (xor a b) (xor a' b'))))
same_two a b a' b' r =
    boole (at 0 ⊕ (at 1 ⊕ at 4)) (at 2 ⊕ (at 3 ⊕ (at 4 ⊕ ((at 0 ⊕ at 1) ⊕ (at 2 ⊕ at 3)))))
    (a ∷ b ∷ a' ∷ b' ∷ r ∷ []) tt

apart_two : (a b a' b' d r : ℕ) → xor a' (xor b' (xor r (xor (xor (xor a b) (xor a' b')) d))) ≡ xor (xor a (xor b r)) d
apart_two a b a' b' d r =
    boole (at 2 ⊕ (at 3 ⊕ (at 4 ⊕ (((at 0 ⊕ at 1) ⊕ (at 2 ⊕ at 3)) ⊕ at 5)))) ((at 0 ⊕ (at 1 ⊕ at 4)) ⊕ at 5)
    (a ∷ b ∷ a' ∷ b' ∷ r ∷ d ∷ []) tt

-- the choice b for an entry, and behind it the choices f
abbrev pub behind : Bool → (ℕ → Bool) → ℕ → Bool
behind b f zero = b
behind b f (suc i) = f i

-- the share of u that entry i reads, and the share of v
abbrev pub reads_left : ℕ → Bool
reads_left i = ltb 3 i

abbrev pub reads_right : ℕ → Bool
reads_right = behind true (behind true (ltb 3))

module _ {n X Y X' Y' : ℕ} {u v u' v' : Shares} (h : n ≤ 64)
    (su : Sharing n X u) (sv : Sharing n Y v) (su' : Sharing n X' u') (sv' : Sharing n Y' v') where
  -- the result is fresh
  pub coupled-masked_and : {d : ℕ} → Bits n d
      → Coupled (Apart n d (and X Y) (and X' Y')) and_entries (masked_and n u v) (masked_and n u' v')
  unfolding masked_and entry ◌>>=◌
  coupled-masked_and {d} w =
      let a = and-bits su.bits0 sv.bits0 in
      let b = and-bits su.bits0 sv.bits1 in
      let a' = and-bits su'.bits0 sv'.bits0 in
      let b' = and-bits su'.bits0 sv'.bits1 in
      let c = xor-bits (xor-bits (xor-bits a b) (xor-bits a' b')) w in
      coupled-mask_low h c _ _ (λ r k.
      coupled-enter_all (entries r u v) (entries _ u' v') refl
      (ret_c
      (record {
        left = sharing-result su sv k;
        right = sharing-result su' sv' (xor-bits k c);
        by = apart_two _ _ _ _ d r;
      })))

  -- entry i, by a mask matched with its sum with c
  by_mask : {c : ℕ} → Bits n c → (i : ℕ) → i < and_entries
      → ((r : ℕ) → get_or (entries r u v) i 0 ≡ get_or (entries (xor r c) u' v') i 0)
      → SameAt i (masked_and n u v) (masked_and n u' v')
  unfolding masked_and entry ◌>>=◌
  by_mask w i k e =
      same_at_mask_low h w _ _ (λ r b. same_at_enter_all (entries r u v) (entries _ u' v') i refl k (e r) (ret_c tt))

  -- every entry, where the two shares that it reads are equal (entries 1, 3, 5 and 7 don't need that)
  pub same_at_masked_and : (i : ℕ) → i < and_entries → share (reads_left i) u ≡ share (reads_left i) u'
      → share (reads_right i) v ≡ share (reads_right i) v' → SameAt i (masked_and n u v) (masked_and n u' v')
  same_at_masked_and zero k p q = by_mask zero_bits 0 k (λ r. ap₂ and p q)
  same_at_masked_and (suc zero) k p q =
      by_mask (xor-bits (and-bits su.bits0 sv.bits1) (and-bits su'.bits0 sv'.bits1)) 1 k (same_one _ _)
  same_at_masked_and (suc (suc zero)) k p q = by_mask zero_bits 2 k (λ r. ap₂ and p q)
  same_at_masked_and (suc (suc (suc zero))) k p q =
      by_mask
      (xor-bits (xor-bits (and-bits su.bits0 sv.bits0) (and-bits su.bits0 sv.bits1))
      (xor-bits (and-bits su'.bits0 sv'.bits0) (and-bits su'.bits0 sv'.bits1))) 3 k (same_two _ _ _ _)
  same_at_masked_and (suc (suc (suc (suc zero)))) k p q = by_mask zero_bits 4 k (λ r. ap₂ and p q)
  same_at_masked_and (suc (suc (suc (suc (suc zero))))) k p q =
      by_mask (xor-bits (and-bits su.bits1 sv.bits0) (and-bits su'.bits1 sv'.bits0)) 5 k (same_one _ _)
  same_at_masked_and (suc (suc (suc (suc (suc (suc zero)))))) k p q = by_mask zero_bits 6 k (λ r. ap₂ and p q)
  same_at_masked_and (suc (suc (suc (suc (suc (suc (suc zero))))))) k p q =
      by_mask
      (xor-bits (xor-bits (and-bits su.bits1 sv.bits1) (and-bits su.bits1 sv.bits0))
      (xor-bits (and-bits su'.bits1 sv'.bits1) (and-bits su'.bits1 sv'.bits0))) 7 k (same_two _ _ _ _)
  same_at_masked_and (suc (suc (suc (suc (suc (suc (suc (suc i)))))))) k p q = absurd (omega arith)
