-- Masked compression as a stage: an entry asks at most for one share of the coefficients, and each plane can keep
-- either share.
use Rattle.std.specs.Prelude.{ℕ, ◌+◌, ◌-◌, ◌*◌, ◌<◌, Bool, List, drop}
use Rattle.std.proofs.Math.Path.{ap}
use Rattle.std.proofs.Common.{subst, arith}
use Rattle.std.proofs.Math.Bool.{true, false}
use Rattle.words.specs.Bits.{Bits}
use Rattle.words.specs.Plane.{plane}
use Rattle.words.specs.PlaneLaws.{plane-bits}
use Rattle.worksheet.specs.Shares.{Shares}
use Rattle.worksheet.specs.Prog.{Prog, ret, ◌>>=◌, times}
use Rattle.worksheet.specs.Couple.{Coupled, Like, SameAt, coupled_bind, coupled_map}
use Rattle.worksheet.specs.Couple.{same_at_left, same_at_right, same_at_map}
use Rattle.worksheet.specs.Places.{cut}
use Rattle.worksheet.specs.Turns.{Turns, turns_weaken, turns-drop}
use Rattle.worksheet.specs.Stage.{Stage, comap, times-stage}
use Rattle.worksheet.specs.SharingLaws.{keep, keep-bits}
use Rattle.worksheet.specs.SharedList.{SharedList, shared_at}
use Rattle.worksheet.specs.Choice.{Kept, KeptList, chosen, SameShares, SameShare, same_share_at}
use Rattle.worksheet.specs.PassLaws.{like_entries, silent_entries}
use Rattle.masked_adder.specs.PlaneSum.{plain_sum, plane_add}
use Rattle.masked_adder.proofs.AdderSilence.{like-adder, coupled-adder, silent-adder}
use Rattle.masked_adder.specs.Adder.{adder}
use Rattle.masked_adder.specs.EntryCounts.{adder_entries}
use Rattle.masked_compression.specs.EntryCounts.{compress_entries}
use Rattle.masked_compression.specs.Compression.{fixed_point, masked_compress}

plain_sum-bits : (v w : ℕ → ℕ) (j : ℕ) → Bits 64 (plain_sum (plane 64 v) (plane 64 w) j)
plain_sum-bits v w j = rw (plane_add 64 v w j) (plane-bits 64 (λ i. v i + w i) j)

-- ---- after the fixed point: the sum of two numbers, its top d planes

abbrev top_planes : ℕ → (ℕ → ℕ) → (ℕ → ℕ) → Prog (List Shares)
top_planes d v w = adder (d + 13) (plane 64 v) (plane 64 w) >>= λ s. ret (drop 13 s)

module _ (d : ℕ) (v w v' w' : ℕ → ℕ) where
  like-top_planes : Like (adder_entries (d + 13)) (top_planes d v w) (top_planes d v' w')
  like-top_planes = coupled_map _ _ (λ s s' t. t) (like-adder (d + 13) _ _ _ _)

  same_at_top_planes : (i : ℕ) → i < adder_entries (d + 13) → SameAt i (top_planes d v w) (top_planes d v' w')
  same_at_top_planes i h =
      same_at_map _ _
      (silent-adder (d + 13) (plane-bits 64 v) (plane-bits 64 w) (plane-bits 64 v') (plane-bits 64 w') i h)

  coupled-top_planes : (c : ℕ → Bool)
      → Coupled (KeptList d c) (adder_entries (d + 13)) (top_planes d v w) (top_planes d v' w')
  coupled-top_planes c =
      coupled_map _ _
      (λ s s' r.
      turns_weaken (λ j h z z' a. subst (λ (k : ℕ). Kept 64 (c k) z z') (omega arith) (chosen (c (13 + j - 13)) a))
      (turns-drop 13 r))
      (coupled-adder (d + 13) (plane-bits 64 v) (plane-bits 64 w) (plane-bits 64 v') (plane-bits 64 w')
      {d = λ j. keep (c (j - 13)) (plain_sum (plane 64 v) (plane 64 w) j) (plain_sum (plane 64 v') (plane 64 w') j)}
      (λ j. keep-bits (c (j - 13)) (plain_sum-bits v w j) (plain_sum-bits v' w' j)))

-- ---- 64 coefficients

module _ (d : ℕ) where
  coupled_sums : {S : List Shares → List Shares → Type 0} (x x' : ℕ → Shares)
      → ((v w v' w' : ℕ → ℕ) → Coupled S (adder_entries (d + 13)) (top_planes d v w) (top_planes d v' w'))
      → Coupled S (compress_entries d) (masked_compress d x) (masked_compress d x')
  unfolding masked_compress compress_entries
  coupled_sums x x' s =
      coupled_bind (like_entries 64 _ _) (λ a a' t. coupled_bind (like_entries 64 _ _) (λ b b' u. s _ _ _ _))

  like-masked_compress : (x x' : ℕ → Shares) → Like (compress_entries d) (masked_compress d x) (masked_compress d x')
  like-masked_compress x x' = coupled_sums x x' (like-top_planes d)

  pub coupled-masked_compress : (c : ℕ → Bool) (x x' : ℕ → Shares)
      → Coupled (KeptList d c) (compress_entries d) (masked_compress d x) (masked_compress d x')
  coupled-masked_compress c x x' = coupled_sums x x' (λ v w v' w'. coupled-top_planes d v w v' w' c)

  abbrev Entry : ℕ → Type 0
  Entry i =
      (q : Bool) × ((x x' : ℕ → Shares) → SameShares 64 q x x' → SameAt i (masked_compress d x) (masked_compress d x'))

  masked_compress-stage : Stage (SameShares 64) (KeptList d) (compress_entries d)
      (masked_compress d) (masked_compress d)
  unfolding masked_compress compress_entries
  masked_compress-stage =
      record {
        like = like-masked_compress;
        entry =
            cut Entry (64 * 1) _
            (λ i h. (
              false,
              λ x x' r.
                  same_at_left (silent_entries 64 _ _ (λ j g. ap (fixed_point d 0) (r.at j g)) i h)
                  (λ a a'. coupled_bind (like_entries 64 _ _) (λ b b' t. like-top_planes d _ _ _ _)),
            ))
            (cut (λ i. Entry (64 * 1 + i)) (64 * 1) (adder_entries (d + 13))
            (λ i h. (
              true,
              λ x x' r.
                  same_at_right (like_entries 64 _ _) (λ a a' t.
                  same_at_left (silent_entries 64 _ _ (λ j g. ap (fixed_point d 4096) (r.at j g)) i h)
                  (λ b b'. like-top_planes d _ _ _ _)),
            ))
            (λ i h. (
              true,
              λ x x' r.
                  same_at_right (like_entries 64 _ _) (λ a a' t.
                  same_at_right (like_entries 64 _ _) (λ b b' u. same_at_top_planes d _ _ _ _ i h)),
            )));
        fresh = λ c. (true, λ x x' r. coupled-masked_compress c x x');
      }

-- ---- n groups of 64

module _ (n d : ℕ) where
  abbrev pub groups : SharedList → Prog (List (List Shares))
  groups f = times n (λ g. masked_compress d (λ i. shared_at f (64 * g + i)))

  pub groups-stage : Stage SameShare (λ (c : ℕ → ℕ → Bool). Turns (λ g. KeptList d (c g)) n)
      (n * compress_entries d) groups groups
  groups-stage =
      times-stage (λ c g. KeptList d (c g)) n
      (λ g h.
      comap SameShare (λ f i. shared_at f (64 * g + i)) (λ f i. shared_at f (64 * g + i)) (λ q. q)
      (λ q f f' r. record { at = λ j l. same_share_at q r (64 * g + j) }) (masked_compress-stage d))
      (λ c. (true, λ f f' r g h. coupled-masked_compress d (c g) _ _))
