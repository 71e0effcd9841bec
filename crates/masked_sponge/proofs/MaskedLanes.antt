-- The lanes of a state in two shares: its start masks, and the lanes of a block mixed into it.
use mathlib.Core.Path.{◌≡◌, refl, sym, ap₂, ◌∙◌, subst}
use mathlib.Core.Bool.{cond}
use mathlib.Core.List.{List, [], ◌∷◌, ◌++◌}
use Prim.Native.Nat.{ℕ, zero, suc, ◌+◌, ◌<◌, ◌≤◌}
use native.Mathlib.Decide.{dec_lt}
use native.Mathlib.Numerals.{add-one}
use native.Mathlib.Omega.{arith}
use borrow.Author.Tests.{lt-ltb, le-ltb}
use lib.Dec.{ltb}
use lib.ListN.{length, get_or, set, drop}
use lib.Seq.{get_or-set_other}
use Rattle.words.specs.Tab.{tab}
use Rattle.words.specs.TabLaws.{tab_of}
use Rattle.worksheet.specs.declared.Recorder.{Recorder}
use Rattle.worksheet.specs.Shares.{Shares}
use Rattle.worksheet.specs.Prog.{word, mask, times}
use Rattle.worksheet.specs.Ran.{Ran, Makes, Draws, bind, over, draws_word, next_word}
use Rattle.worksheet.specs.RanLoops.{times_start, times_turn}
use Rattle.worksheet.specs.Sharing.{none}
use Rattle.worksheet.specs.SharedList.{SharedList, shared_list, shared_at, unzip}
use Rattle.worksheet.specs.Zip.{zip}
use Rattle.worksheet.specs.SharedListLaws.{get_d_zip}
use Rattle.worksheet.specs.StoredSharings.{StoredSharings, sharings_start, sharings_turn, sharings_end}
use Rattle.worksheet.specs.Gates.{masked_xor}
use Rattle.masked_sponge.specs.MaskedSponge.{start, mix_lanes}

-- ---- start masks

-- the first n masks of a strip
masks_ran : (n : ℕ) {r : Recorder} {ws cs : List ℕ}
    → Ran (times n (λ i. mask word)) r ws cs (tab n (λ i. get_or ws i 0)) r (drop n ws) cs
unfolding tab
masks_ran zero = times_start _
masks_ran (suc n) {r} {ws} {cs} =
    let h : Ran (times (n + 1) (λ i. mask word)) r ws cs (tab n (λ i. get_or ws i 0) ++ get_or ws n 0 ∷ []) r
    (drop (n + 1) ws) cs =
    times_turn _ n (masks_ran n) (next_word ws n (λ xs cs e. draws_word e)) in
    rw (add-one n) at h

pub start-draws : {l ws : List ℕ} → l ≡ tab 25 (λ i. get_or ws i 0) → (r : Recorder)
    → Draws word 25 start r ws (shared_list l l) r
unfolding start
start-draws e r cs = rw e (bind _ (masks_ran 25) over)

-- ---- a block's lanes

-- the first j of n lanes b are mixed into the state s, whose shares are now l0 and l1
pub record Mixing (n : ℕ) (b : ℕ → Shares) (s : SharedList) (j : ℕ) (r r' : Recorder) (l0 l1 : List ℕ) : Type 0 where
  pub mixed :
      StoredSharings (λ m ys t. Makes (times m (λ k. masked_xor (shared_at s k) (b k))) r ys t) n 25 l0 l1 r' j
  pub rest0 : (k : ℕ) → j ≤ k → get_or l0 k 0 ≡ get_or s.s0 k 0
  pub rest1 : (k : ℕ) → j ≤ k → get_or l1 k 0 ≡ get_or s.s1 k 0

pub mixing_start : {n : ℕ} {b : ℕ → Shares} {r : Recorder} {l0 l1 : List ℕ} → n ≤ 25 → length l0 ≡ 25 → length l1 ≡ 25
    → Mixing n b (shared_list l0 l1) 0 r r l0 l1
mixing_start h e0 e1 =
    record {
      mixed = sharings_start h e0 e1 (λ ws cs. times_start _);
      rest0 = λ k g. refl;
      rest1 = λ k g. refl;
    }

pub mixing_turn : {n : ℕ} {b : ℕ → Shares} {s : SharedList} {j : ℕ} {r r' r'' : Recorder} {l0 l1 : List ℕ}
    {v w : Shares}
    → Mixing n b s j r r' l0 l1 → j < n → w ≡ b j → Makes (masked_xor (shared_at (shared_list l0 l1) j) w) r' v r''
    → Mixing n b s (j + 1) r r'' (set l0 j v.s0) (set l1 j v.s1)
mixing_turn {j = j} {l0 = l0} {l1 = l1} {v = v} a h e m =
    record {
      mixed =
          sharings_turn a.mixed v.s0 v.s1 h (λ ws cs.
          times_turn _ j (a.mixed.ran ws cs)
          (rw (a.rest0 j (omega arith), a.rest1 j (omega arith), e) at (m ws cs)));
      rest0 = λ k g. get_or-set_other l0 j k v.s0 0 (λ e. omega arith) ∙ a.rest0 k (omega arith);
      rest1 = λ k g. get_or-set_other l1 j k v.s1 0 (λ e. omega arith) ∙ a.rest1 k (omega arith);
    }

pub mixing_end : {n : ℕ} {b : ℕ → Shares} {s : SharedList} {j : ℕ} {r r' : Recorder} {l0 l1 : List ℕ}
    → Mixing n b s j r r' l0 l1 → n ≤ j → Makes (mix_lanes n b s) r (shared_list l0 l1) r'
unfolding mix_lanes unzip
mixing_end {n} {b} {s} {j} {r} {r'} {l0} {l1} a h ws cs =
    let is : shared_list l0 l1 ≡ unzip 25 now =
    ap₂ shared_list (tab_of 0 l0 25 a.mixed.long0 (λ k g. lane0 k (dec_lt k n)))
    (tab_of 0 l1 25 a.mixed.long1 (λ k g. lane1 k (dec_lt k n))) in
    subst (λ (z : SharedList). Ran (mix_lanes n b s) r ws cs z r' ws cs) (sym is)
    (bind _ (sharings_end a.mixed h ws cs) over)
  where
    now : ℕ → Shares
    now k = cond (ltb k n) (get_or (zip n (shared_list l0 l1)) k none) (shared_at s k)

    lane0 : (k : ℕ) → Dec (k < n) → get_or l0 k 0 ≡ (now k).s0
    lane0 k (yes g) = rw (lt-ltb k n g, get_d_zip n (shared_list l0 l1) k none g)
    lane0 k (no g) = rw (le-ltb k n (omega arith)) (a.rest0 k (omega (arith, a.mixed.within)))

    lane1 : (k : ℕ) → Dec (k < n) → get_or l1 k 0 ≡ (now k).s1
    lane1 k (yes g) = rw (lt-ltb k n g, get_d_zip n (shared_list l0 l1) k none g)
    lane1 k (no g) = rw (le-ltb k n (omega arith)) (a.rest1 k (omega (arith, a.mixed.within)))
