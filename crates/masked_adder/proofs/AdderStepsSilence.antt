-- Couplings of the adder's steps: a plane that takes shares, the next carry, a sum plane.
use Prim.Native.Nat.{ℕ, zero, suc, ◌<◌}
use Rattle.std.specs.Prelude.{◌≡◌, Bool, true, false, [], ◌∷◌, ltb}
use Rattle.std.proofs.Common.{sym, ◌∙◌, arith}
use Rattle.words.specs.Word.{xor, and}
use Rattle.words.specs.Bits.{Bits}
use Rattle.words.specs.WordLaws.{xor-bits, and-bits, zero_bits, xor_zero, xor-xor_cancel}
use Rattle.words.specs.Formula.{boole, at, ◌⊕◌}
use Rattle.worksheet.specs.Shares.{Shares}
use Rattle.worksheet.specs.Prog.{◌>>=◌, mask, entry}
use Rattle.worksheet.specs.Couple.{Coupled, ret_c, draw_c, enter_c, coupled_bind}
use Rattle.worksheet.specs.Couple.{Like, Silent, SameAt, here, there, under}
use Rattle.worksheet.specs.Matching.{identity, by_xor}
use Rattle.worksheet.specs.Sharing.{shares}
use Rattle.worksheet.specs.SharingLaws.{share, Sharing, Apart, apart-xor, xor_shares, sharing-xor_shares}
use Rattle.worksheet.specs.MaskedAndSilence.{reads_left, reads_right, behind}
use Rattle.worksheet.specs.Gates.{masked_xor}
use Rattle.worksheet.specs.GatesSilence.{like-masked_xor, coupled-masked_xor, like-xor_and, coupled-xor_and}
use Rattle.worksheet.specs.GatesSilence.{same_at_xor_and}
use Rattle.masked_adder.specs.Adder.{mask_plane, carry_step, sum_plane}
use Rattle.masked_adder.specs.EntryCounts.{carry_entries}

-- ---- a plane takes shares

pub like-mask_plane : (x x' : ℕ) → Like 1 (mask_plane x) (mask_plane x')
unfolding mask_plane mask entry ◌>>=◌ identity
like-mask_plane x x' = draw_c identity (λ r h. enter_c (ret_c tt))

sharing_masked : {x r : ℕ} → Bits 64 x → Bits 64 r → Sharing 64 x (shares (xor x r) r)
sharing_masked {x} {r} w v = record { bits0 = xor-bits w v; bits1 = v; joins = xor-xor_cancel x r }

-- the mask r and the mask that it is matched with
apart_masked : (x x' d r : ℕ) → xor x' (xor r (xor (xor x x') d)) ≡ xor (xor x r) d
apart_masked x x' d r =
    boole (at 1 ⊕ (at 3 ⊕ ((at 0 ⊕ at 1) ⊕ at 2))) (at 0 ⊕ at 3 ⊕ at 2) (x ∷ x' ∷ d ∷ r ∷ []) tt

module _ {x x' : ℕ} (w : Bits 64 x) (w' : Bits 64 x') where
  pub coupled-mask_plane : {d : ℕ} → Bits 64 d → Coupled (Apart 64 d x x') 1 (mask_plane x) (mask_plane x')
  unfolding mask_plane mask entry ◌>>=◌ by_xor
  coupled-mask_plane {d} v =
      let c = xor-bits (xor-bits w w') v in
      draw_c (by_xor c) (λ r h.
      let b : Bits 64 r = record { lt = h } in
      enter_c (ret_c (record {
        left = sharing_masked w b;
        right = sharing_masked w' (xor-bits b c);
        by = apart_masked x x' d r;
      })))

  pub silent-mask_plane : Silent 1 (mask_plane x) (mask_plane x')
  unfolding mask_plane mask entry ◌>>=◌ by_xor
  silent-mask_plane zero h =
      under (by_xor (xor-bits (xor-bits w w') zero_bits))
      (λ r g. here (sym (apart_masked x x' 0 r ∙ xor_zero (xor x r))) (ret_c tt))
  silent-mask_plane (suc i) h = absurd (omega arith)

-- ---- the next carry

pub like-carry_step : (a b c a' b' c' : Shares) → Like carry_entries (carry_step a b c) (carry_step a' b' c')
unfolding carry_step
like-carry_step a b c a' b' c' =
    coupled_bind (like-masked_xor a b a' b') (λ x x' r.
    coupled_bind (like-masked_xor a c a' c') (λ y y' s. like-xor_and 64 a x y a' x' y'))

-- the share of a xor b that entry i reads, and the share of a xor carry; share 0 where it reads none
abbrev pub sum_read : ℕ → Bool
sum_read = behind false (behind true (behind false (behind false reads_left)))

abbrev pub carry_read : ℕ → Bool
carry_read = behind false (behind false (behind false (behind true reads_right)))

module _ {A B C A' B' C' : ℕ} {a b c a' b' c' : Shares} (sa : Sharing 64 A a) (sb : Sharing 64 B b)
    (sc : Sharing 64 C c)
    (sa' : Sharing 64 A' a') (sb' : Sharing 64 B' b') (sc' : Sharing 64 C' c') where
  pub coupled-carry_step : {d : ℕ} → Bits 64 d
      → Coupled (Apart 64 d (xor A (and (xor A B) (xor A C))) (xor A' (and (xor A' B') (xor A' C')))) carry_entries
      (carry_step a b c)
      (carry_step a' b' c')
  unfolding carry_step
  coupled-carry_step w =
      coupled_bind (coupled-masked_xor (apart-xor sa sa') (apart-xor sb sb')) (λ x x' r.
      coupled_bind (coupled-masked_xor (apart-xor sa sa') (apart-xor sc sc')) (λ y y' s.
      coupled-xor_and (omega arith) sa r.left s.left sa' r.right s.right w))

  pub same_at_carry_step : (i : ℕ) → i < carry_entries
      → share (sum_read i) (xor_shares a b) ≡ share (sum_read i) (xor_shares a' b')
      → share (carry_read i) (xor_shares a c) ≡ share (carry_read i) (xor_shares a' c')
      → SameAt i (carry_step a b c) (carry_step a' b' c')
  unfolding carry_step masked_xor entry ◌>>=◌
  same_at_carry_step zero h p q = here p (enter_c (enter_c (enter_c (like-xor_and 64 _ _ _ _ _ _))))
  same_at_carry_step (suc zero) h p q = there (here p (enter_c (enter_c (like-xor_and 64 _ _ _ _ _ _))))
  same_at_carry_step (suc (suc zero)) h p q = there (there (here q (enter_c (like-xor_and 64 _ _ _ _ _ _))))
  same_at_carry_step (suc (suc (suc zero))) h p q = there (there (there (here q (like-xor_and 64 _ _ _ _ _ _))))
  same_at_carry_step (suc (suc (suc (suc i)))) h p q =
      there (there (there (there
      (same_at_xor_and (omega arith) sa (sharing-xor_shares sa sb) (sharing-xor_shares sa sc) sa'
      (sharing-xor_shares sa' sb')
      (sharing-xor_shares sa' sc') i (omega arith) p q))))

pub bits_carry : {A B C : ℕ} → Bits 64 A → Bits 64 B → Bits 64 C → Bits 64 (xor A (and (xor A B) (xor A C)))
bits_carry a b c = xor-bits a (and-bits (xor-bits a b) (xor-bits a c))

-- ---- a sum plane

abbrev pub sum_shares : Shares → Shares → Shares → Shares
sum_shares a b c = xor_shares (xor_shares a b) c

pub like-sum_plane : (a b c a' b' c' : Shares) → Like 2 (sum_plane a b c) (sum_plane a' b' c')
unfolding sum_plane entry ◌>>=◌
like-sum_plane a b c a' b' c' = enter_c (enter_c (ret_c tt))

module _ (a b c a' b' c' : Shares) where
  pub coupled-sum_plane : {R : Shares → Shares → Type 0} → R (sum_shares a b c) (sum_shares a' b' c')
      → Coupled R 2 (sum_plane a b c) (sum_plane a' b' c')
  unfolding sum_plane entry ◌>>=◌
  coupled-sum_plane r = enter_c (enter_c (ret_c r))

  pub same_at_sum_plane : (i : ℕ) → i < 2 → share (ltb 0 i) (sum_shares a b c) ≡ share (ltb 0 i) (sum_shares a' b' c')
      → SameAt i (sum_plane a b c) (sum_plane a' b' c')
  unfolding sum_plane entry ◌>>=◌
  same_at_sum_plane zero h e = here e (enter_c (ret_c tt))
  same_at_sum_plane (suc zero) h e = there (here e (ret_c tt))
  same_at_sum_plane (suc (suc i)) h e = absurd (omega arith)
