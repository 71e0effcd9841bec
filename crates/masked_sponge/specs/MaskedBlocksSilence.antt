-- Blocks taken in on two shares, as a stage: for any two strings of blocks, and any differences asked of the end.
use Rattle.std.specs.Prelude.{ℕ, ◌+◌, ◌*◌, ◌<◌, ◌≤◌, ◌≡◌, refl, Bool, true, false, cond, List, get_or}
use Rattle.std.proofs.Common.{sym, ap₂, ◌∙◌, zero-add, arith, ltb-true, ltb-false}
use Rattle.std.proofs.Math.Dec.{ltb}
use Rattle.words.specs.Word.{xor}
use Rattle.words.specs.Bits.{Bits}
use Rattle.words.specs.WordLaws.{xor-bits, zero_bits, xor_same, xor_zero, xor-xor_cancel}
use Rattle.keccak.specs.LinearPass.{LaneBits}
use Rattle.worksheet.specs.Shares.{Shares}
use Rattle.worksheet.specs.Prog.{◌>>=◌, mask, entry, loop}
use Rattle.worksheet.specs.Couple.{Coupled, ret_c, draw_c, enter_c, Like, SameAt, coupled_weaken, coupled_recount}
use Rattle.worksheet.specs.Couple.{same_at_recount, coupled_bind, coupled_map, same_at_right, same_at_map}
use Rattle.worksheet.specs.CoupleLoops.{like-loop, coupled-times, like-times, same_at_times}
use Rattle.worksheet.specs.Matching.{by_xor}
use Rattle.worksheet.specs.Places.{turns}
use Rattle.worksheet.specs.Stage.{EqualAt, Stage, and_then, loop-stage}
use Rattle.worksheet.specs.Sharing.{shares, none, joined}
use Rattle.worksheet.specs.SharingLaws.{sharing-bits, Apart, apart-xor, apart_cong, share-keep, xor_shares}
use Rattle.worksheet.specs.SharingLaws.{apart-xor_shares}
use Rattle.worksheet.specs.SharedList.{SharedList, shared_at, unzip}
use Rattle.worksheet.specs.SharedListLaws.{shared_at-unzip}
use Rattle.worksheet.specs.Choice.{Both, both_bits}
use Rattle.worksheet.specs.Gates.{masked_xor}
use Rattle.worksheet.specs.EntryCounts.{xor_entries}
use Rattle.worksheet.specs.GatesSilence.{like-masked_xor, same_at_masked_xor}
use Rattle.masked_keccak.specs.MaskedKeccak.{masked_keccak_p}
use Rattle.masked_keccak.specs.SharedLanes.{Differences, LanesApart, keep_lanes}
use Rattle.masked_keccak.specs.Silence.{masked_keccak_p-stage}
use Rattle.masked_sponge.specs.MaskedSponge.{start, mix_lanes, masked_blocks}
use Rattle.masked_sponge.specs.EntryCounts.{blocks_entries}

-- ---- the start: two states of zeros, set apart by any differences

zeros_bits : LaneBits (λ k. 0)
zeros_bits = record { at = λ k h. zero_bits }

-- one mask in both shares
apart_mask : {d x : ℕ} → Bits 64 d → Bits 64 x → Apart 64 d 0 0 (shares x x) (shares (xor x d) (xor x d))
apart_mask {d} {x} b w =
    record {
      left = record { bits0 = w; bits1 = w; joins = xor_same x };
      right = record { bits0 = xor-bits w b; bits1 = xor-bits w b; joins = xor_same (xor x d) };
      by = refl;
    }

coupled-start : (d : Differences) → Coupled (LanesApart d) 0 start start
unfolding start mask by_xor
coupled-start d =
    let b = d.bits zeros_bits zeros_bits in
    coupled_map _ _ (λ m m' t. record { X = λ k. 0; X' = λ k. 0; at = t.at 0 0 })
    (coupled-times {m = 0} 25 {R = λ i x y. Apart 64 (d.by (λ k. 0) (λ k. 0) i) 0 0 (shares x x) (shares y y)} (λ i h.
    draw_c (by_xor (b.at i h)) (λ x l. ret_c (apart_mask (b.at i h) (record { lt = l })))))

-- ---- a block mixed in

-- lane j of a block of n lanes; past its end it is zero
abbrev block_lane : ℕ → (ℕ → Shares) → ℕ → Shares
block_lane n b j = cond (ltb j n) (b j) none

block_lane_of : (n : ℕ) (b : ℕ → Shares) (j : ℕ) → j < n → block_lane n b j ≡ b j
block_lane_of n b j h = go (ltb j n) refl
  where
    go : (c : Bool) → ltb j n ≡ c → cond c (b j) none ≡ b j
    go true e = refl
    go false e = absurd (omega (arith, ltb-false j n e))

-- z and z' are lane j of the sums
record Sums (b b' : ℕ → Shares) (s s' : SharedList) (j : ℕ) (z z' : Shares) : Type 0 where
  pub left : z ≡ xor_shares (shared_at s j) (b j)
  pub right : z' ≡ xor_shares (shared_at s' j) (b' j)

record Mixed (n : ℕ) (b b' : ℕ → Shares) (s s' t t' : SharedList) : Type 0 where
  pub left : (j : ℕ) → j < 25 → shared_at t j ≡ xor_shares (shared_at s j) (block_lane n b j)
  pub right : (j : ℕ) → j < 25 → shared_at t' j ≡ xor_shares (shared_at s' j) (block_lane n b' j)

mixed_lane : (n : ℕ) (b : ℕ → Shares) (s : SharedList) (z : List Shares)
    → ((j : ℕ) → j < n → get_or z j none ≡ xor_shares (shared_at s j) (b j)) → (j : ℕ) → j < 25
    → shared_at (unzip 25 (λ j. cond (ltb j n) (get_or z j none) (shared_at s j))) j
    ≡ xor_shares (shared_at s j) (block_lane n b j)
mixed_lane n b s z e j h = shared_at-unzip 25 _ j h ∙ go (ltb j n) refl
  where
    go : (c : Bool) → ltb j n ≡ c
        → cond c (get_or z j none) (shared_at s j) ≡ xor_shares (shared_at s j) (cond c (b j) none)
    go true q = e j (ltb-true j n q)
    go false q = sym (ap₂ shares (xor_zero _) (xor_zero _))

like-mix_lanes : (n : ℕ) (b b' : ℕ → Shares) (s s' : SharedList)
    → Like (n * xor_entries) (mix_lanes n b s) (mix_lanes n b' s')
unfolding mix_lanes
like-mix_lanes n b b' s s' = coupled_map _ _ (λ z z' u. u) (like-times n (λ j h. like-masked_xor _ _ _ _))

coupled-mix_lanes : (n : ℕ) (b b' : ℕ → Shares) (s s' : SharedList)
    → Coupled (Mixed n b b' s s') (n * xor_entries) (mix_lanes n b s) (mix_lanes n b' s')
unfolding mix_lanes masked_xor entry ◌>>=◌
coupled-mix_lanes n b b' s s' =
    coupled_map _ _ (λ z z' t.
    record {
      left = mixed_lane n b s z (λ j h. (t.at none none j h).left);
      right = mixed_lane n b' s' z' (λ j h. (t.at none none j h).right);
    })
    (coupled-times n {R = Sums b b' s s'} (λ j h. enter_c (enter_c (ret_c (record { left = refl; right = refl })))))

-- two blocks of n lanes, of 64 bits in both shares
record BlockBoth (n : ℕ) (b b' : ℕ → Shares) : Type 0 where
  pub at : (j : ℕ) → j < n → Both 64 (b j) (b' j)

both_lane : {n : ℕ} {b b' : ℕ → Shares} → BlockBoth n b b' → (j : ℕ) → Both 64 (block_lane n b j) (block_lane n b' j)
both_lane {n} {b} {b'} k j = go (ltb j n) refl
  where
    go : (c : Bool) → ltb j n ≡ c → Both 64 (cond c (b j) none) (cond c (b' j) none)
    go true e = k.at j (ltb-true j n e)
    go false e = both_bits zero_bits zero_bits zero_bits zero_bits

module _ {n : ℕ} {b b' : ℕ → Shares} (k : BlockBoth n b b') where
  -- the joined lanes X after the block
  abbrev with_block : (ℕ → Shares) → (ℕ → ℕ) → ℕ → ℕ
  with_block b X j = xor (X j) (joined (block_lane n b j))

  -- the differences before the block that become d
  before_block : Differences → Differences
  before_block d =
      record {
        by = λ X X' j. xor (d.by (with_block b X) (with_block b' X') j)
            (xor (block_lane n b j).s0 (block_lane n b' j).s0);
        bits = λ v w.
            let c : LaneBits (with_block b _) =
            record { at = λ j h. xor-bits (v.at j h) (sharing-bits (both_lane k j).left) } in
            let c' : LaneBits (with_block b' _) =
            record { at = λ j h. xor-bits (w.at j h) (sharing-bits (both_lane k j).right) } in
            record {
              at = λ j h. xor-bits ((d.bits c c').at j h)
                  (xor-bits (both_lane k j).left.bits0 (both_lane k j).right.bits0);
            };
      }

  apart_mixed : (d : Differences) {s s' : SharedList} (r : LanesApart (before_block d) s s') (j : ℕ) → j < 25
      → Apart 64 (d.by (with_block b r.X) (with_block b' r.X') j) (with_block b r.X j) (with_block b' r.X' j)
      (xor_shares (shared_at s j) (block_lane n b j)) (xor_shares (shared_at s' j) (block_lane n b' j))
  unfolding before_block
  apart_mixed d r j h =
      apart_cong (xor-xor_cancel _ _)
      (apart-xor_shares (r.at j h) (apart-xor (both_lane k j).left (both_lane k j).right))

  -- entry i of lane j, by the share that it is
  same_at_mix_lanes : n ≤ 25 → (j i : ℕ) → j < n → i < xor_entries → {s s' : SharedList}
      → LanesApart (before_block (keep_lanes (λ l. ltb 0 i))) s s'
      → SameAt (j * xor_entries + i) (mix_lanes n b s) (mix_lanes n b' s')
  unfolding mix_lanes keep_lanes
  same_at_mix_lanes u j i h g {s} {s'} r =
      same_at_map _ _ (same_at_times n j (λ l q. like-masked_xor _ _ _ _) h
      (same_at_masked_xor (shared_at s j) (b j) (shared_at s' j) (b' j) i g
      (rw (← block_lane_of n b j h, ← block_lane_of n b' j h)
      (share-keep (ltb 0 i) (apart_mixed (keep_lanes (λ l. ltb 0 i)) r j (omega arith))))))

  mix_lanes-stage : n ≤ 25 → Stage LanesApart LanesApart (n * xor_entries) (mix_lanes n b) (mix_lanes n b')
  mix_lanes-stage u =
      record {
        like = like-mix_lanes n b b';
        entry =
            turns (EqualAt LanesApart (mix_lanes n b) (mix_lanes n b')) n xor_entries (λ j i h g.
            (before_block (keep_lanes (λ l. ltb 0 i)), λ s s' r. same_at_mix_lanes u j i h g r));
        fresh = λ d. (
          before_block d,
          λ s s' r.
              coupled_weaken (λ t t' m.
              record {
                X = with_block b r.X;
                X' = with_block b' r.X';
                at = λ j h. rw (m.left j h, m.right j h) (apart_mixed d r j h);
              })
              (coupled-mix_lanes n b b' s s'),
        );
      }

-- ---- n blocks of so many lanes, from the start

-- two strings of blocks, of 64 bits in both shares; there is no choice
pub record BlocksBoth (lanes n : ℕ) (e : Unit {0}) (b b' : ℕ → ℕ → Shares) : Type 0 where
  pub at : (i : ℕ) → i < n → (j : ℕ) → j < lanes → Both 64 (b i j) (b' i j)

blocks_stage : {lanes n : ℕ} {e : Unit {0}} {b b' : ℕ → ℕ → Shares} → lanes ≤ 25 → BlocksBoth lanes n e b b'
    → Stage LanesApart LanesApart (blocks_entries lanes n) (loop n (λ i s. mix_lanes lanes (b i) s >>= masked_keccak_p))
    (loop n (λ i s. mix_lanes lanes (b' i) s >>= masked_keccak_p))
blocks_stage {n = n} u k =
    loop-stage {R = λ j. LanesApart} n
    (λ i h. and_then (mix_lanes-stage (record { at = k.at i h }) u) masked_keccak_p-stage)

pub masked_blocks-stage : (lanes n : ℕ) → lanes ≤ 25
    → Stage (BlocksBoth lanes n) LanesApart (blocks_entries lanes n) (masked_blocks lanes n) (masked_blocks lanes n)
unfolding masked_blocks
masked_blocks-stage lanes n u =
    record {
      like = λ b b'. coupled_recount (zero-add _) (coupled_bind (coupled-start (keep_lanes (λ k. false))) (λ s s' r.
          like-loop n s s' (λ i h t t'.
          coupled_bind (like-mix_lanes lanes (b i) (b' i) t t') (λ v v' q. masked_keccak_p-stage.like v v'))));
      entry = λ i h. (
        tt,
        λ b b' k. let x = (blocks_stage u k).entry i h in
            same_at_recount (zero-add _) (same_at_right (coupled-start x.0) x.1),
      );
      fresh = λ d. (
        tt,
        λ b b' k. let x = (blocks_stage u k).fresh d in
            coupled_recount (zero-add _) (coupled_bind (coupled-start x.0) x.1),
      );
    }
