-- The recorder: it counts entries down, and keeps the value of one.
use Rattle.std.specs.Prelude.{ℕ, zero, suc, ◌-◌, pred, ◌≡◌, refl, List, [], ◌∷◌, ◌++◌, get_or}
use Rattle.std.proofs.Common.{sub-one}
use Rattle.worksheet.specs.declared.Recorder.{Recorder}

-- what is kept once v is entered, where `left` is 1 if v is the entry to keep
abbrev kept : ℕ → ℕ → ℕ → ℕ
kept zero v old = old
kept (suc zero) v old = v
kept (suc (suc n)) v old = old

-- the recorder after one more entry
unfoldable pub note : Recorder → ℕ → Recorder
note r v = record { left = pred r.left; value = kept r.left v r.value }

-- the recorder after more entries, in order
unfoldable pub note_all : Recorder → List ℕ → Recorder
note_all r [] = r
note_all r (v ∷ vs) = note_all (note r v) vs

pub note_all_append : (r : Recorder) (xs ys : List ℕ) → note_all r (xs ++ ys) ≡ note_all (note_all r xs) ys
unfolding note_all
note_all_append r [] ys = refl
note_all_append r (x ∷ xs) ys = note_all_append (note r x) xs ys

-- as the code goes, by cases on `left`
pub note_zero : (l w v : ℕ) → l ≡ 0 → record { left = l; value = w } ≡ note (record { left = l; value = w }) v
unfolding note
note_zero l w v e = rw e

pub note_one : (l w v : ℕ) → l ≡ 1 → record { left = 0; value = v } ≡ note (record { left = l; value = w }) v
unfolding note
note_one l w v e = rw e

pub note_more : (l w v : ℕ) → (l ≡ 0 → ⊥) → (l ≡ 1 → ⊥)
    → record { left = l - 1; value = w } ≡ note (record { left = l; value = w }) v
unfolding note
note_more zero w v h g = absurd (h refl)
note_more (suc zero) w v h g = absurd (g refl)
note_more (suc (suc l)) w v h g = rw sub-one

-- at `left` = 0 the value stays
noted_none : (vs : List ℕ) (v : ℕ) → (note_all (record { left = 0; value = v }) vs).value ≡ v
unfolding note_all note
noted_none [] v = refl
noted_none (x ∷ vs) v = noted_none vs v

-- at `left` = t + 1 the recorder ends with entry t
pub noted : (vs : List ℕ) (t v : ℕ) → (note_all (record { left = suc t; value = v }) vs).value ≡ get_or vs t v
unfolding note_all note
noted [] t v = refl
noted (x ∷ vs) zero v = noted_none vs x
noted (x ∷ vs) (suc t) v = noted vs t v
