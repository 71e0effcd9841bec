-- Couplings of theta, rho and pi on the two shares of a state, each share alone.
use Rattle.std.specs.Prelude.{ℕ, ◌+◌, ◌*◌, ◌<◌, ◌≡◌, Bool, true, false, List, get_or}
use Rattle.std.proofs.Common.{sym, ap₂, ◌∙◌, arith}
use Rattle.words.specs.Tab.{tab}
use Rattle.words.specs.TabLaws.{tabulated_at}
use Rattle.keccak.specs.LinearPass.{pass_at, LaneBits, pass_is, pass_cong, pass_bits, pass_xor}
use Rattle.keccak.specs.Aim.{aimed, aimed_bits, aimed-1, aimed-2}
use Rattle.worksheet.specs.Shares.{Shares}
use Rattle.worksheet.specs.Prog.{Prog}
use Rattle.worksheet.specs.Couple.{Coupled, coupled_weaken}
use Rattle.worksheet.specs.Places.{cut}
use Rattle.worksheet.specs.Pass.{enter_both}
use Rattle.worksheet.specs.PassLaws.{coupled-enter_both, like-enter_both, same_at_share0, same_at_share1}
use Rattle.worksheet.specs.Stage.{EqualAt, Stage}
use Rattle.worksheet.specs.Sharing.{shares}
use Rattle.worksheet.specs.SharingLaws.{share, Sharing, Apart, apart_cong, keep, keep-bits, share-keep}
use Rattle.worksheet.specs.SharedList.{SharedList, shared_at}
use Rattle.keccak.specs.KeccakP.{along, theta, rho, pi}
use Rattle.masked_keccak.specs.SharedLanes.{LaneSharings, LanesBoth, lane_bits, Differences, LanesApart}
use Rattle.masked_keccak.specs.SharedLanes.{keep_lanes, kept_lane, lanes_both, difference_bits}

-- ---- both shares

-- a list's lanes
abbrev lanes_of : List ℕ → ℕ → ℕ
lanes_of l k = get_or l k 0

-- theta, rho and pi of a share
abbrev linear : List ℕ → List ℕ
linear l = pi (rho (theta l))

-- the two passes of a round
unfoldable pub passes : SharedList → Prog SharedList
passes s = enter_both 25 (linear s.s0) (linear s.s1)

-- the shares of lane i after the passes
abbrev passed_at : SharedList → ℕ → Shares
passed_at s i = shares (pass_at (lanes_of s.s0) i) (pass_at (lanes_of s.s1) i)

record Passed (s s' t t' : SharedList) : Type 0 where
  pub left : (i : ℕ) → i < 25 → shared_at t i ≡ passed_at s i
  pub right : (i : ℕ) → i < 25 → shared_at t' i ≡ passed_at s' i

passed_lane : (l : List ℕ) {a : List ℕ} → a ≡ tab 25 (lanes_of (linear l)) → (i : ℕ) → i < 25
    → get_or a i 0 ≡ pass_at (lanes_of l) i
passed_lane l e i h = tabulated_at 25 (lanes_of (linear l)) e i 0 h ∙ pass_is l i

same_lane : (l l' : List ℕ) → ((k : ℕ) → k < 25 → get_or l k 0 ≡ get_or l' k 0)
    → (i : ℕ) → i < 25 → get_or (linear l) i 0 ≡ get_or (linear l') i 0
same_lane l l' e i h = pass_is l i ∙ pass_cong e i ∙ sym (pass_is l' i)

coupled-passes : (s s' : SharedList) → Coupled (Passed s s') (25 * 1 + 25 * 1) (passes s) (passes s')
unfolding passes
coupled-passes s s' =
    coupled-enter_both 25 _ _ _ _ (λ x x' y y' t u.
    record {
      left = λ i h. ap₂ shares (passed_lane s.s0 t.left i h) (passed_lane s.s1 u.left i h);
      right = λ i h. ap₂ shares (passed_lane s'.s0 t.right i h) (passed_lane s'.s1 u.right i h);
    })

-- ---- what the passes do to sharings and to differences

pub sharing_pass : {X : ℕ → ℕ} {s : SharedList} → LaneSharings X s → (i : ℕ) → i < 25
    → Sharing 64 (pass_at X i) (passed_at s i)
sharing_pass {s = s} l i h =
    let b0 : LaneBits (lanes_of s.s0) = record { at = λ k g. (l.at k g).bits0 } in
    let b1 : LaneBits (lanes_of s.s1) = record { at = λ k g. (l.at k g).bits1 } in
    record {
      bits0 = pass_bits b0 i h;
      bits1 = pass_bits b1 i h;
      joins = sym (pass_xor b0 b1 i h) ∙ pass_cong (λ k g. (l.at k g).joins) i;
    }

apart_pass : {d : Differences} {s s' : SharedList} (r : LanesApart d s s') (i : ℕ) → i < 25
    → Apart 64 (pass_at (d.by r.X r.X') i) (pass_at r.X i) (pass_at r.X' i) (passed_at s i) (passed_at s' i)
apart_pass r i h =
    record {
      left = sharing_pass (lanes_both r).left i h;
      right = sharing_pass (lanes_both r).right i h;
      by =
          pass_cong (λ k g. (r.at k g).by) i
          ∙ pass_xor (record { at = λ k g. (r.at k g).left.bits0 }) (difference_bits r) i h;
    }

both_passed : {s s' t t' : SharedList} → LanesBoth s s' → Passed s s' t t' → LanesBoth t t'
both_passed r u =
    record {
      X = pass_at r.X;
      X' = pass_at r.X';
      left = record { at = λ k g. rw (u.left k g) (sharing_pass r.left k g) };
      right = record { at = λ k g. rw (u.right k g) (sharing_pass r.right k g) };
    }

pub both_passes : (s s' : SharedList) → LanesBoth s s' → Coupled LanesBoth (25 * 1 + 25 * 1) (passes s) (passes s')
both_passes s s' r = coupled_weaken (λ t t' u. both_passed r u) (coupled-passes s s')

-- ---- the lanes that chi reads

-- for lane i, share p of the next lane of its row and share q of the lane after that
pub record Operands : Type 0 where
  pub lane : ℕ
  pub within : lane < 25
  pub p : Bool
  pub q : Bool

-- in two states these two shares are equal
pub record OperandsKept (o : Operands) (s s' : SharedList) : Type 0 where
  pub both : LanesBoth s s'
  pub first : share o.p (shared_at s (along 1 o.lane)) ≡ share o.p (shared_at s' (along 1 o.lane))
  pub second : share o.q (shared_at s (along 2 o.lane)) ≡ share o.q (shared_at s' (along 2 o.lane))

-- the differences before the passes at which they are
aim_operands : Operands → Differences
aim_operands o =
    let a = along 1 o.lane in
    let b = along 2 o.lane in
    record {
      by = λ X X'. aimed o.lane (keep o.p (pass_at X a) (pass_at X' a)) (keep o.q (pass_at X b) (pass_at X' b));
      bits = λ v w.
          aimed_bits o.lane o.within
          (keep-bits o.p (pass_bits v a (omega arith)) (pass_bits w a (omega arith)))
          (keep-bits o.q (pass_bits v b (omega arith)) (pass_bits w b (omega arith)));
    }

operands_aimed : (o : Operands) {s s' t t' : SharedList} → LanesApart (aim_operands o) s s' → Passed s s' t t'
    → OperandsKept o t t'
unfolding aim_operands
operands_aimed o r u =
    let i = o.lane in
    let h = o.within in
    let a = along 1 i in
    let b = along 2 i in
    let l = lane_bits (lanes_both r).left in
    let m = lane_bits (lanes_both r).right in
    let v = keep-bits o.p (pass_bits l a (omega arith)) (pass_bits m a (omega arith)) in
    let w = keep-bits o.q (pass_bits l b (omega arith)) (pass_bits m b (omega arith)) in
    record {
      both = both_passed (lanes_both r) u;
      first =
          rw (u.left a (omega arith), u.right a (omega arith))
          (share-keep o.p (apart_cong (aimed-1 i h v w) (apart_pass r a (omega arith))));
      second =
          rw (u.left b (omega arith), u.right b (omega arith))
          (share-keep o.q (apart_cong (aimed-2 i h v w) (apart_pass r b (omega arith))));
    }

-- ---- as a stage

-- an entry is equal where the lanes of its share are
pub passes-stage : Stage LanesApart OperandsKept (25 * 1 + 25 * 1) passes passes
unfolding passes
passes-stage =
    record {
      like = λ s s'. like-enter_both 25 _ _ _ _;
      entry =
          cut (EqualAt LanesApart passes passes) (25 * 1) (25 * 1)
          (λ i h. (
            keep_lanes (λ k. false),
            λ s s' r.
                same_at_share0 25 _ _ _ _
                (same_lane s.s0 s'.s0 (λ k g. (kept_lane (λ k. false) r k g).same)) i h,
          ))
          (λ i h. (
            keep_lanes (λ k. true),
            λ s s' r.
                same_at_share1 25 _ _ _ _
                (same_lane s.s1 s'.s1 (λ k g. (kept_lane (λ k. true) r k g).same)) i h,
          ));
      fresh = λ o. (aim_operands o, λ s s' r. coupled_weaken (λ t t' u. operands_aimed o r u) (coupled-passes s s'));
    }
