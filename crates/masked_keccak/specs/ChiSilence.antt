-- Couplings of chi: its lanes can be set apart by any differences, and an entry asks for one share of each of two
-- lanes.
use Prim.Native.Nat.{ℕ, zero, suc, ◌+◌, ◌*◌, ◌<◌}
use Rattle.std.specs.Prelude.{◌≡◌, Bool, false}
use Rattle.std.proofs.Common.{ap, arith}
use Rattle.words.specs.Word.{xor, and, complement}
use Rattle.words.specs.Bits.{Bits}
use Rattle.words.specs.WordLaws.{xor-bits, and-bits, complement-bits}
use Rattle.keccak.specs.LinearPass.{LaneBits}
use Rattle.worksheet.specs.Shares.{Shares}
use Rattle.worksheet.specs.Prog.{◌>>=◌, entry}
use Rattle.worksheet.specs.Couple.{Coupled, enter_c, Like, SameAt, here, there, coupled_bind}
use Rattle.worksheet.specs.CoupleLoops.{coupled-times, like-times, same_at_times}
use Rattle.worksheet.specs.Turns.{Turns}
use Rattle.worksheet.specs.SharingLaws.{share, Sharing, Apart, sharing-not_shares, share-not_shares}
use Rattle.worksheet.specs.SharedList.{SharedList, shared_at}
use Rattle.worksheet.specs.Gates.{masked_not}
use Rattle.worksheet.specs.MaskedAndSilence.{reads_left, reads_right, behind}
use Rattle.worksheet.specs.GatesSilence.{like-masked_not, like-xor_and, coupled-xor_and, same_at_xor_and}
use Rattle.keccak.specs.KeccakP.{along}
use Rattle.masked_keccak.specs.MaskedKeccak.{chi_lane, masked_chi}
use Rattle.masked_keccak.specs.EntryCounts.{chi_lane_entries}
use Rattle.masked_keccak.specs.SharedLanes.{LaneSharings}

-- ---- one lane

like-chi_lane : (w u v w' u' v' : Shares) → Like chi_lane_entries (chi_lane w u v) (chi_lane w' u' v')
unfolding chi_lane
like-chi_lane w u v w' u' v' = coupled_bind (like-masked_not 64 u u') (λ n n' t. like-xor_and 64 w n v w' n' v')

-- what the lane joins to
abbrev chi_of : ℕ → ℕ → ℕ → ℕ
chi_of X Y Z = xor X (and (complement 64 Y) Z)

-- the share of u that entry i reads, and the share of v
abbrev pub chi_reads_first : ℕ → Bool
chi_reads_first = behind false reads_left

abbrev pub chi_reads_second : ℕ → Bool
chi_reads_second = behind false reads_right

module _ {X Y Z X' Y' Z' : ℕ} {w u v w' u' v' : Shares}
    (sw : Sharing 64 X w) (su : Sharing 64 Y u) (sv : Sharing 64 Z v)
    (sw' : Sharing 64 X' w') (su' : Sharing 64 Y' u') (sv' : Sharing 64 Z' v') where
  coupled-chi_lane : {d : ℕ} → Bits 64 d
      → Coupled (Apart 64 d (chi_of X Y Z) (chi_of X' Y' Z')) chi_lane_entries (chi_lane w u v) (chi_lane w' u' v')
  unfolding chi_lane masked_not entry ◌>>=◌
  coupled-chi_lane b =
      enter_c (coupled-xor_and (omega arith) sw (sharing-not_shares su) sv sw' (sharing-not_shares su') sv' b)

  same_at_chi_lane : (i : ℕ) → i < chi_lane_entries → share (chi_reads_first i) u ≡ share (chi_reads_first i) u'
      → share (chi_reads_second i) v ≡ share (chi_reads_second i) v' → SameAt i (chi_lane w u v) (chi_lane w' u' v')
  unfolding chi_lane masked_not entry ◌>>=◌
  same_at_chi_lane zero h p q = here (ap (complement 64) p) (like-xor_and 64 _ _ _ _ _ _)
  same_at_chi_lane (suc i) h p q =
      there
      (same_at_xor_and (omega arith) sw (sharing-not_shares su) sv sw' (sharing-not_shares su') sv' i (omega arith)
      (share-not_shares 64 (reads_left i) u u' p) q)

-- ---- 25 lanes

pub like_chi : (s s' : SharedList) → Like (25 * chi_lane_entries) (masked_chi s) (masked_chi s')
unfolding masked_chi
like_chi s s' = like-times 25 (λ i h. like-chi_lane _ _ _ _ _ _)

-- lane i of chi, for the lanes X
abbrev pub chi_at : (ℕ → ℕ) → ℕ → ℕ
chi_at X i = chi_of (X i) (X (along 1 i)) (X (along 2 i))

pub chi_at_bits : {X : ℕ → ℕ} → LaneBits X → LaneBits (chi_at X)
chi_at_bits b =
    record {
      at = λ i h.
          xor-bits (b.at i h)
          (and-bits (complement-bits (b.at (along 1 i) (omega arith))) (b.at (along 2 i) (omega arith)));
    }

module _ {X X' : ℕ → ℕ} {s s' : SharedList} (l : LaneSharings X s) (r : LaneSharings X' s') where
  pub coupled_chi : {e : ℕ → ℕ} → LaneBits e
      → Coupled (Turns (λ i. Apart 64 (e i) (chi_at X i) (chi_at X' i)) 25) (25 * chi_lane_entries) (masked_chi s)
      (masked_chi s')
  unfolding masked_chi
  coupled_chi b =
      coupled-times 25 (λ i h.
      coupled-chi_lane (l.at i h) (l.at (along 1 i) (omega arith)) (l.at (along 2 i) (omega arith))
      (r.at i h) (r.at (along 1 i) (omega arith)) (r.at (along 2 i) (omega arith)) (b.at i h))

  pub same_at_chi : (i j : ℕ) → i < 25 → j < chi_lane_entries
      → share (chi_reads_first j) (shared_at s (along 1 i)) ≡ share (chi_reads_first j) (shared_at s' (along 1 i))
      → share (chi_reads_second j) (shared_at s (along 2 i)) ≡ share (chi_reads_second j) (shared_at s' (along 2 i))
      → SameAt (i * chi_lane_entries + j) (masked_chi s) (masked_chi s')
  unfolding masked_chi
  same_at_chi i j h g p q =
      same_at_times 25 i (λ i h. like-chi_lane _ _ _ _ _ _) h
      (same_at_chi_lane (l.at i h) (l.at (along 1 i) (omega arith)) (l.at (along 2 i) (omega arith))
      (r.at i h) (r.at (along 1 i) (omega arith)) (r.at (along 2 i) (omega arith)) j g p q)
