-- The permutation on two shares, as a stage: for any two states and any differences asked of what it makes of them.
use Prim.Native.Nat.{ℕ, zero, suc, ◌+◌, ◌*◌, ◌<◌}
use Rattle.std.specs.Prelude.{◌≡◌, get_or, set}
use Rattle.std.proofs.Math.Path.{ap, fun_ext}
use Rattle.std.proofs.Common.{ap₂, ◌∙◌, subst, arith, get_or-set_same, get_or-set_other}
use Rattle.std.proofs.Math.Bool.{false}
use mathlib.Core.List.{List}
use Rattle.words.specs.Word.{xor}
use Rattle.words.specs.Bits.{Bits}
use Rattle.words.specs.WordLaws.{xor-bits, zero_bits}
use Rattle.words.specs.Tab.{tab}
use Rattle.words.specs.TabLaws.{length-tab, get_or-tab}
use Rattle.keccak_constants.specs.RoundConstants.{constant}
use Rattle.keccak_constants.specs.RoundConstantLaws.{constant-bits}
use Rattle.keccak.specs.LinearPass.{LaneBits}
use Rattle.worksheet.specs.Shares.{Shares}
use Rattle.worksheet.specs.Prog.{Prog, ret, enter, ◌>>=◌, entry, loop}
use Rattle.worksheet.specs.ProgLaws.{bind_assoc}
use Rattle.worksheet.specs.Couple.{Coupled, ret_c, enter_c, Like, SameAt, here, coupled_weaken, coupled_bind}
use Rattle.worksheet.specs.Couple.{same_at_recount, same_at_left, same_at_right}
use Rattle.worksheet.specs.CoupleLoops.{coupled-loop}
use Rattle.worksheet.specs.Places.{cut, turns}
use Rattle.worksheet.specs.Pass.{enter_both}
use Rattle.worksheet.specs.Turns.{Turns}
use Rattle.worksheet.specs.Stage.{EqualAt, Stage, and_then, loop-stage}
use Rattle.worksheet.specs.Sharing.{shares, none}
use Rattle.worksheet.specs.SharingLaws.{Apart, share-keep, xor_public, apart-xor_public}
use Rattle.worksheet.specs.SharedList.{SharedList, shared_list, shared_at, unzip}
use Rattle.masked_keccak.specs.MaskedKeccak.{pass, masked_chi, masked_round, masked_keccak_p}
use Rattle.masked_keccak.specs.EntryCounts.{chi_lane_entries, round_entries, keccak_p_entries}
use Rattle.masked_keccak.specs.SharedLanes.{LanesBoth, lane_bits, Differences, LanesApart, keep_lanes, lanes_both}
use Rattle.masked_keccak.specs.PassSilence.{passes, both_passes, passes-stage, Operands, OperandsKept}
use Rattle.masked_keccak.specs.ChiSilence.{chi_at, chi_at_bits, chi_reads_first, chi_reads_second, like_chi}
use Rattle.masked_keccak.specs.ChiSilence.{coupled_chi, same_at_chi}

-- ---- chi and iota

-- the state with the lanes c, and k added to share 0 of lane 0
abbrev pub with_constant : ℕ → List Shares → SharedList
with_constant k c =
    let t = unzip 25 (λ j. get_or c j none) in shared_list (set t.s0 0 (xor (get_or c 0 none).s0 k)) t.s1

iota : ℕ → List Shares → Prog SharedList
iota i c = enter (xor (get_or c 0 none).s0 (constant i)) (ret (with_constant (constant i) c))

pub with_constant_zero : (k : ℕ) (c : List Shares) → shared_at (with_constant k c) 0 ≡ xor_public k (get_or c 0 none)
unfolding unzip
with_constant_zero k c =
    let f : ℕ → Shares = λ j. get_or c j none in
    ap₂ shares (get_or-set_same (tab 25 (λ j. (f j).s0)) 0 _ 0 (omega (arith, length-tab 25 (λ j. (f j).s0))))
    (get_or-tab 25 (λ j. (f j).s1) 0 0 (omega arith))

pub with_constant-suc : (k : ℕ) (c : List Shares) (i : ℕ) → suc i < 25
    → shared_at (with_constant k c) (suc i) ≡ get_or c (suc i) none
unfolding unzip
with_constant-suc k c i h =
    let f : ℕ → Shares = λ j. get_or c j none in
    ap₂ shares
    (get_or-set_other (tab 25 (λ j. (f j).s0)) 0 (suc i) _ 0 (λ e. omega arith)
    ∙ get_or-tab 25 (λ j. (f j).s0) (suc i) 0 h)
    (get_or-tab 25 (λ j. (f j).s1) (suc i) 0 h)

-- the lanes X with k in lane 0
abbrev pub iota_at : ℕ → (ℕ → ℕ) → ℕ → ℕ
iota_at k X zero = xor (X 0) k
iota_at k X (suc i) = X (suc i)

iota_at_bits : (i : ℕ) {X : ℕ → ℕ} → LaneBits X → LaneBits (iota_at (constant i) X)
iota_at_bits i {X} b = record { at = go }
  where
    go : (j : ℕ) → j < 25 → Bits 64 (iota_at (constant i) X j)
    go zero h = xor-bits (b.at 0 h) (constant-bits i)
    go (suc j) h = b.at (suc j) h

apart_iota : {k : ℕ} {e X X' : ℕ → ℕ} {c c' : List Shares} → Bits 64 k
    → Turns (λ j. Apart 64 (e j) (X j) (X' j)) 25 c c' → (j : ℕ) → j < 25
    → Apart 64 (e j) (iota_at k X j) (iota_at k X' j) (shared_at (with_constant k c) j)
    (shared_at (with_constant k c') j)
apart_iota {k} {c = c} {c' = c'} b t zero h =
    rw (with_constant_zero k c, with_constant_zero k c') (apart-xor_public b (t.at none none 0 h))
apart_iota {k} {c = c} {c' = c'} b t (suc j) h =
    rw (with_constant-suc k c j h, with_constant-suc k c' j h) (t.at none none (suc j) h)

like-iota : (i : ℕ) (c c' : List Shares) → Like 1 (iota i c) (iota i c')
unfolding iota
like-iota i c c' = enter_c (ret_c tt)

-- any choice will do
any_operands : Operands
any_operands = record { lane = 0; within = omega arith; p = false; q = false }

module _ (i : ℕ) where
  abbrev nonlinear : SharedList → Prog SharedList
  nonlinear t = masked_chi t >>= iota i

  module _ {s s' : SharedList} (r : LanesBoth s s') where
    coupled-nonlinear : (d : Differences)
        → Coupled (LanesApart d) (25 * chi_lane_entries + 1) (nonlinear s) (nonlinear s')
    unfolding iota
    coupled-nonlinear d =
        let Y = iota_at (constant i) (chi_at r.X) in
        let Y' = iota_at (constant i) (chi_at r.X') in
        let b =
        d.bits (iota_at_bits i (chi_at_bits (lane_bits r.left)))
        (iota_at_bits i (chi_at_bits (lane_bits r.right))) in
        coupled_bind (coupled_chi r.left r.right b) (λ c c' t.
        enter_c (ret_c (record { X = Y; X' = Y'; at = apart_iota (constant-bits i) t })))

    last_nonlinear : SameAt (25 * chi_lane_entries + 0) (nonlinear s) (nonlinear s')
    unfolding iota
    last_nonlinear =
        same_at_right (coupled_chi r.left r.right {e = λ k. 0} (record { at = λ k h. zero_bits })) (λ c c' t.
        here (ap (λ (x : ℕ). xor x (constant i)) (share-keep false (t.at none none 0 (omega arith)))) (ret_c tt))

  nonlinear-stage : Stage OperandsKept LanesApart (25 * chi_lane_entries + 1) nonlinear nonlinear
  unfolding any_operands
  nonlinear-stage =
      record {
        like = λ s s'. coupled_bind (like_chi s s') (λ c c' t. like-iota i c c');
        entry = cut (EqualAt OperandsKept nonlinear nonlinear) (25 * chi_lane_entries) 1
            (turns (EqualAt OperandsKept nonlinear nonlinear) 25 chi_lane_entries (λ l j h g. (
              record { lane = l; within = h; p = chi_reads_first j; q = chi_reads_second j },
              λ s s' r.
                  same_at_left (same_at_chi r.both.left r.both.right l j h g r.first r.second)
                  (like-iota i),
            )))
            (λ j h. (any_operands, λ s s' r. same_at_recount (omega arith) (last_nonlinear r.both)));
        fresh = λ d. (any_operands, λ s s' r. coupled-nonlinear r.both d);
      }

  -- ---- a round

  round_is : (s : SharedList) → passes s >>= nonlinear ≡ masked_round i s
  unfolding passes enter_both pass masked_round iota entry ◌>>=◌
  round_is s =
      bind_assoc (pass s.s0) (λ a. pass s.s1 >>= λ b. ret (shared_list a b)) nonlinear
      ∙ ap (λ (f : List ℕ → Prog SharedList). pass s.s0 >>= f)
      (fun_ext (λ a. bind_assoc (pass s.s1) (λ b. ret (shared_list a b)) nonlinear))

  round_stage : Stage LanesApart LanesApart round_entries (masked_round i) (masked_round i)
  round_stage =
      subst (λ (f : SharedList → Prog SharedList). Stage LanesApart LanesApart round_entries f f) (fun_ext round_is)
      (and_then passes-stage nonlinear-stage)

  -- fresh, however the states before are related
  coupled_round : (s s' : SharedList) → LanesBoth s s' → (d : Differences)
      → Coupled (LanesApart d) round_entries (masked_round i s) (masked_round i s')
  coupled_round s s' r d =
      rw (← round_is s, ← round_is s') (coupled_bind (both_passes s s' r) (λ t t' q. coupled-nonlinear q d))

-- ---- the permutation

pub masked_keccak_p-stage : Stage LanesApart LanesApart keccak_p_entries masked_keccak_p masked_keccak_p
unfolding masked_keccak_p
masked_keccak_p-stage = loop-stage {R = λ j. LanesApart} 24 (λ j h. round_stage j)

pub coupled-masked_keccak_p : (s s' : SharedList) → LanesBoth s s' → (d : Differences)
    → Coupled (LanesApart d) keccak_p_entries (masked_keccak_p s) (masked_keccak_p s')
unfolding masked_keccak_p loop
coupled-masked_keccak_p s s' r d =
    coupled_bind
    (coupled-loop (λ j. LanesBoth) 23 (λ j h t t' q.
    coupled_weaken (λ u u' a. lanes_both a) (coupled_round j t t' q (keep_lanes (λ k. false)))) r)
    (λ t t' q. coupled_round 23 t t' q d)
