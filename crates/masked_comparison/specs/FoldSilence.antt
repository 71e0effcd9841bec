-- Words folded by Or, as a stage: an entry asks for one share of word 0 and for one of the other words.
use Rattle.std.specs.Prelude.{ℕ, zero, suc, ◌+◌, ◌*◌, ◌<◌, ◌≤◌, ◌≡◌, refl, Bool, true}
use Rattle.std.proofs.Common.{ap, suc-mul, add-one, arith}
use Rattle.words.specs.WordLaws.{or-bits}
use Rattle.worksheet.specs.Shares.{Shares}
use Rattle.worksheet.specs.Prog.{loop}
use Rattle.worksheet.specs.Couple.{Coupled, Like, SameAt, coupled_bind}
use Rattle.worksheet.specs.CoupleLoops.{coupled-loop, like-loop, same_at_loop}
use Rattle.worksheet.specs.Places.{turns}
use Rattle.worksheet.specs.Stage.{Stage}
use Rattle.worksheet.specs.SharingLaws.{sharing-bits}
use Rattle.worksheet.specs.Choice.{Both, Kept, KeptWords, Way, keeping, coupled-way}
use Rattle.worksheet.specs.MaskedAndSilence.{behind}
use Rattle.worksheet.specs.Gates.{masked_or}
use Rattle.worksheet.specs.EntryCounts.{or_entries}
use Rattle.worksheet.specs.GatesSilence.{or_reads_left, or_reads_right, like-masked_or, coupled-masked_or}
use Rattle.worksheet.specs.GatesSilence.{same_at_masked_or}
use Rattle.masked_comparison.specs.Comparison.{fold_or}

-- ---- Or by choices

module _ {n : ℕ} {u v u' v' : Shares} (h : n ≤ 64) (bu : Both n u u') (bv : Both n v v') where
  pub coupled-masked_or-way : {S : Shares → Shares → Type 0} → Way n S
      → Coupled S or_entries (masked_or n u v) (masked_or n u' v')
  coupled-masked_or-way s =
      coupled-way s (or-bits (sharing-bits bu.left) (sharing-bits bv.left))
      (or-bits (sharing-bits bu.right) (sharing-bits bv.right))
      (λ d w. coupled-masked_or h bu.left bv.left bu.right bv.right w)

pub same_at_masked_or-kept : {n i : ℕ} {u v u' v' : Shares} → n ≤ 64 → i < or_entries → Kept n (or_reads_left i) u u'
    → Kept n (or_reads_right i) v v' → SameAt i (masked_or n u v) (masked_or n u' v')
same_at_masked_or-kept {i = i} h g ku kv =
    same_at_masked_or h ku.both.left kv.both.left ku.both.right kv.both.right i g ku.same kv.same

-- ---- the fold

like-fold_or : (n : ℕ) (w w' : ℕ → Shares) → Like (n * or_entries) (fold_or n w) (fold_or n w')
unfolding fold_or
like-fold_or n w w' = like-loop n (w 0) (w' 0) (λ j h s s'. like-masked_or 64 s _ s' _)

module _ (n : ℕ) {c : ℕ → Bool} {w w' : ℕ → Shares} (r : KeptWords (n + 1) c w w') where
  -- one more word, and share q of the result is equal
  kept_turn : (q : Bool) (j : ℕ) → j < n → (s s' : Shares) → Kept 64 q s s'
      → Coupled (Kept 64 q) or_entries (masked_or 64 s (w (j + 1))) (masked_or 64 s' (w' (j + 1)))
  kept_turn q j h s s' k = coupled-masked_or-way (omega arith) k.both (r.at (j + 1) (omega arith)).both (keeping q)

  same_at_fold_or : (j i : ℕ) → j < n → i < or_entries → c 0 ≡ or_reads_left i → c (j + 1) ≡ or_reads_right i
      → SameAt (j * or_entries + i) (fold_or n w) (fold_or n w')
  unfolding fold_or
  same_at_fold_or j i h g p q =
      same_at_loop (λ j. Kept 64 (or_reads_left i)) n j (λ j h s s'. like-masked_or 64 s _ s' _)
      (kept_turn (or_reads_left i))
      (rw p at (r.at 0 (omega arith))) h
      (λ s s' k. same_at_masked_or-kept (omega arith) g k (rw q at (r.at (j + 1) (omega arith))))

-- the last Or sets the result
coupled-fold_or : (n : ℕ) {c : ℕ → Bool} {w w' : ℕ → Shares} → 0 < n → KeptWords (n + 1) c w w'
    → {S : Shares → Shares → Type 0} → Way 64 S → Coupled S (n * or_entries) (fold_or n w) (fold_or n w')
unfolding fold_or loop
coupled-fold_or zero h r s = absurd (omega arith)
coupled-fold_or (suc n) {c} h r s =
    rw (suc-mul n or_entries)
    (coupled_bind
    (coupled-loop (λ j. Kept 64 (c 0)) n (λ j g. kept_turn (suc n) r (c 0) j (omega arith)) (r.at 0 (omega arith)))
    (λ t t' k. coupled-masked_or-way (omega arith) k.both (r.at (n + 1) (omega arith)).both s))

-- S d is any way to set the result apart
pub fold_or-stage : (n : ℕ) → 0 < n → {D : Type 0} {S : D → Shares → Shares → Type 0} → ((d : D) → Way 64 (S d))
    → Stage (KeptWords (n + 1)) S (n * or_entries) (fold_or n) (fold_or n)
fold_or-stage n pos way =
    record {
      like = like-fold_or n;
      entry =
          turns Entry n or_entries (λ j i h g.
          let c = behind (or_reads_left i) (λ l. or_reads_right i) in
          (c, λ w w' r. same_at_fold_or n r j i h g refl (ap c (add-one j))));
      fresh = λ d. ((λ j. true), λ w w' r. coupled-fold_or n pos r (way d));
    }
  where
    Entry : ℕ → Type 0
    Entry i = (c : ℕ → Bool) × ((w w' : ℕ → Shares) → KeptWords (n + 1) c w w' → SameAt i (fold_or n w) (fold_or n w'))
