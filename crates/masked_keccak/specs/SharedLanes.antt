-- Two states on two shares, compared lane by lane.
use Rattle.std.specs.Prelude.{ℕ, ◌<◌, Bool}
use Rattle.keccak.specs.LinearPass.{LaneBits}
use Rattle.worksheet.specs.SharingLaws.{Sharing, Apart, keep, keep-bits, sharing-bits}
use Rattle.worksheet.specs.Choice.{Kept, chosen}
use Rattle.worksheet.specs.SharedList.{SharedList, shared_at}

-- s is a sharing of the state with the lanes X, 25 of 64 bits
pub record LaneSharings (X : ℕ → ℕ) (s : SharedList) : Type 0 where
  pub at : (i : ℕ) → i < 25 → Sharing 64 (X i) (shared_at s i)

pub lane_bits : {X : ℕ → ℕ} {s : SharedList} → LaneSharings X s → LaneBits X
lane_bits l = record { at = λ i h. sharing-bits (l.at i h) }

-- two such states
pub record LanesBoth (s s' : SharedList) : Type 0 where
  pub X : ℕ → ℕ
  pub X' : ℕ → ℕ
  pub left : LaneSharings X s
  pub right : LaneSharings X' s'

-- A choice of 25 differences of 64 bits, for the lanes X and X' that the two states join to.
pub record Differences : Type 0 where
  pub by : (ℕ → ℕ) → (ℕ → ℕ) → ℕ → ℕ
  pub bits : {X X' : ℕ → ℕ} → LaneBits X → LaneBits X' → LaneBits (by X X')

-- two such states whose shares 0 differ by these
pub record LanesApart (d : Differences) (s s' : SharedList) : Type 0 where
  pub X : ℕ → ℕ
  pub X' : ℕ → ℕ
  pub at : (i : ℕ) → i < 25 → Apart 64 (d.by X X' i) (X i) (X' i) (shared_at s i) (shared_at s' i)

-- share c i of lane i is equal
unfoldable pub keep_lanes : (ℕ → Bool) → Differences
keep_lanes c =
    record {
      by = λ X X' i. keep (c i) (X i) (X' i);
      bits = λ b b'. record { at = λ k h. keep-bits (c k) (b.at k h) (b'.at k h) };
    }

pub kept_lane : (c : ℕ → Bool) {s s' : SharedList} → LanesApart (keep_lanes c) s s' → (i : ℕ) → i < 25
    → Kept 64 (c i) (shared_at s i) (shared_at s' i)
unfolding keep_lanes
kept_lane c r i h = chosen (c i) (r.at i h)

module _ {d : Differences} {s s' : SharedList} (r : LanesApart d s s') where
  abbrev pub lanes_both : LanesBoth s s'
  lanes_both =
      record {
        X = r.X;
        X' = r.X';
        left = record { at = λ i h. (r.at i h).left };
        right = record { at = λ i h. (r.at i h).right };
      }

  pub difference_bits : LaneBits (d.by r.X r.X')
  difference_bits = d.bits (lane_bits lanes_both.left) (lane_bits lanes_both.right)
