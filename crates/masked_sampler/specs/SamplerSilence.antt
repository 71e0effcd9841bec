-- Couplings of the sampler: every entry can be made equal, whatever the bits are, and the result set apart by any
-- difference.
use Prim.Native.Nat.{ℕ, zero, suc, ◌+◌, ◌-◌, ◌*◌, ◌%◌, ◌<◌}
use Rattle.std.specs.Prelude.{◌≡◌, Bool, cond}
use Rattle.std.proofs.Math.Path.{refl, ap, ap₂}
use Rattle.std.proofs.Math.Bool.{true, false}
use mathlib.Core.List.{List}
use Rattle.std.proofs.Common.{add-one, arith}
use Rattle.std.proofs.Math.ListN.{get_or}
use Rattle.words.specs.Residue.{q}
use Rattle.worksheet.specs.Shares.{Shares}
use Rattle.worksheet.specs.Prog.{Prog, ret, ◌>>=◌, entry, times}
use Rattle.worksheet.specs.Couple.{Coupled, ret_c, enter_c, coupled_weaken, coupled_bind, coupled_map}
use Rattle.worksheet.specs.Couple.{Like, Silent, SameAt, here, same_at_left, same_at_right, same_at_map}
use Rattle.worksheet.specs.CoupleLoops.{coupled-loop, like-loop, silent-loop, coupled-times, like-times, silent-times}
use Rattle.worksheet.specs.Places.{cut}
use Rattle.worksheet.specs.Turns.{Turns}
use Rattle.worksheet.specs.Sharing.{shares, none}
use Rattle.worksheet.specs.SharingLaws.{share}
use Rattle.worksheet.specs.CoeffSharing.{CoeffApart, coeff_apart_cong, coeff_apart_add_shares}
use Rattle.worksheet.specs.CoeffSharing.{coeff_keep, coeff_keep_lt, share-coeff_keep}
use Rattle.masked_sampler.specs.Coefficient.{bit_to_coeff, sums, weight, sampler}
use Rattle.masked_sampler.specs.EntryCounts.{bit_to_coeff_entries, sampler_entries}
use Rattle.masked_sampler.specs.CoefficientLaws.{coeff_of}
use Rattle.masked_sampler.specs.SamplerLaws.{sum_to}
use Rattle.masked_sampler.specs.CoefficientSilence.{like-bit_to_coeff, coupled-bit_to_coeff, silent-bit_to_coeff}

-- ---- sums

pub record Sums (x x' : ℕ → ℕ) (n s s' : ℕ) : Type 0 where
  pub left : s ≡ sum_to x n
  pub right : s' ≡ sum_to x' n

module _ (n : ℕ) (x x' : ℕ → ℕ) where
  like_sums : Like (n * 1) (sums n x) (sums n x')
  unfolding sums entry
  like_sums = like-loop n (x 0) (x' 0) (λ j h s s'. enter_c (ret_c tt))

  pub coupled_sums : Coupled (Sums x x' n) (n * 1) (sums n x) (sums n x')
  unfolding sums entry sum_to
  coupled_sums =
      coupled-loop (Sums x x') n
      (λ j h s s' r.
      enter_c
      (ret_c
      (record {
        left = ap (λ (t : ℕ). (t + x (j + 1)) % q) r.left;
        right = ap (λ (t : ℕ). (t + x' (j + 1)) % q) r.right;
      })))
      (record { left = refl; right = refl })

  silent_sums : ((j : ℕ) → j < suc n → x j ≡ x' j) → Silent (n * 1) (sums n x) (sums n x')
  unfolding sums entry
  silent_sums e =
      silent-loop (λ j s s'. s ≡ s') n (λ j h s s'. enter_c (ret_c tt)) (λ j h s s' r. enter_c (ret_c (next j h r)))
      (e 0 (omega arith)) go
    where
      next : (j : ℕ) → j < n → {s s' : ℕ} → s ≡ s' → (s + x (j + 1)) % q ≡ (s' + x' (j + 1)) % q
      next j h r = ap₂ (λ (t u : ℕ). (t + u) % q) r (e (j + 1) (omega arith))

      go : (j : ℕ) → j < n → (s s' : ℕ) → s ≡ s'
          → Silent 1 (entry ((s + x (j + 1)) % q)) (entry ((s' + x' (j + 1)) % q))
      go j h s s' r zero g = here (next j h r) (ret_c tt)
      go j h s s' r (suc i) g = absurd (omega arith)

coeff_apart_sum_to : (d X X' : ℕ → ℕ) (z z' : ℕ → Shares) (n : ℕ)
    → ((j : ℕ) → j < suc n → CoeffApart q (d j) (X j) (X' j) (z j) (z' j))
    → CoeffApart q (sum_to d n) (sum_to X n) (sum_to X' n)
    (shares (sum_to (λ j. (z j).s0) n) (sum_to (λ j. (z j).s1) n))
    (shares (sum_to (λ j. (z' j).s0) n) (sum_to (λ j. (z' j).s1) n))
unfolding sum_to
coeff_apart_sum_to d X X' z z' zero r = r 0 (omega arith)
coeff_apart_sum_to d X X' z z' (suc n) r =
    coeff_apart_add_shares (coeff_apart_sum_to d X X' z z' n (λ j h. r j (omega arith))) (r (n + 1) (omega arith))

-- ---- the sampler

-- what the result is a sharing of
abbrev pub sampler_of : ℕ → (ℕ → Shares) → ℕ
sampler_of eta b = sum_to (λ j. coeff_of (weight eta j) (b j) % q) (2 * eta - 1)

-- the difference d in one summand
abbrev in_first : ℕ → ℕ → ℕ
in_first d zero = d
in_first d (suc j) = 0

sum_to-in_first : {d : ℕ} (n : ℕ) → d < q → sum_to (in_first d) n ≡ d
unfolding sum_to
sum_to-in_first zero h = refl
sum_to-in_first {d} (suc n) h = omega (arith, sum_to-in_first n h, ap (in_first d) (add-one n))

module _ (eta : ℕ) (b b' : ℕ → Shares) where
  abbrev Converted : (ℕ → ℕ) → List Shares → List Shares → Type 0
  Converted d =
      Turns (λ j. CoeffApart q (d j) (coeff_of (weight eta j) (b j) % q) (coeff_of (weight eta j) (b' j) % q)) (2 * eta)

  converted : (d : ℕ → ℕ)
      → Coupled (Converted d) (2 * eta * bit_to_coeff_entries)
      (times (2 * eta) (λ j. bit_to_coeff (weight eta j) (b j)))
      (times (2 * eta) (λ j. bit_to_coeff (weight eta j) (b' j)))
  converted d = coupled-times (2 * eta) (λ j h. coupled-bit_to_coeff (weight eta j) (b j) (b' j) (d j))

  abbrev rest : List Shares → Prog Shares
  rest z = do
    s0 ← sums (2 * eta - 1) (λ j. (get_or z j none).s0)
    s1 ← sums (2 * eta - 1) (λ j. (get_or z j none).s1)
    ret (shares s0 s1)

  like-rest : (z z' : List Shares) → Like ((2 * eta - 1) * 1 + (2 * eta - 1) * 1) (rest z) (rest z')
  like-rest z z' = coupled_bind (like_sums _ _ _) (λ s s' t. coupled_map _ _ (λ u u' v. v) (like_sums _ _ _))

  pub like-sampler : Like (sampler_entries eta) (sampler eta b) (sampler eta b')
  unfolding sampler sampler_entries
  like-sampler = coupled_bind (like-times (2 * eta) (λ j h. like-bit_to_coeff _ _ _)) (λ z z' t. like-rest z z')

  module _ (pos : 0 < eta) where
    -- the result is fresh
    coupled-sampler : {d : ℕ} → d < q
        → Coupled (CoeffApart q d (sampler_of eta b) (sampler_of eta b')) (sampler_entries eta)
        (sampler eta b) (sampler eta b')
    unfolding sampler sampler_entries
    coupled-sampler {d} h =
        coupled_bind (converted (in_first d)) (λ z z' r.
        coupled_bind (coupled_sums _ _ _) (λ s s' t.
        coupled_map _ _ (λ u u' v. go z z' s s' u u' r t v) (coupled_sums _ _ _)))
      where
        go : (z z' : List Shares) (s s' u u' : ℕ) → Converted (in_first d) z z'
            → Sums (λ j. (get_or z j none).s0) (λ j. (get_or z' j none).s0) (2 * eta - 1) s s'
            → Sums (λ j. (get_or z j none).s1) (λ j. (get_or z' j none).s1) (2 * eta - 1) u u'
            → CoeffApart q d (sampler_of eta b) (sampler_of eta b') (shares s u) (shares s' u')
        go z z' s s' u u' r t v =
            rw (t.left, t.right, v.left, v.right)
            (coeff_apart_cong (sum_to-in_first (2 * eta - 1) h)
            (coeff_apart_sum_to (in_first d) _ _ (λ j. get_or z j none) (λ j. get_or z' j none) (2 * eta - 1)
            (λ j g. r.at none none j (omega arith))))

    -- so that share c is equal
    pub coupled-sampler-share : (c : Bool)
        → Coupled (λ z z'. share c z ≡ share c z') (sampler_entries eta) (sampler eta b) (sampler eta b')
    coupled-sampler-share c =
        coupled_weaken (λ z z' a. share-coeff_keep c a)
        (coupled-sampler (coeff_keep_lt c (sampler_of eta b) (sampler_of eta b') (omega arith)))

    silent_rest : (c : Bool) (z z' : List Shares)
        → ((j : ℕ) → j < 2 * eta → share c (get_or z j none) ≡ share c (get_or z' j none))
        → (i : ℕ) → i < (2 * eta - 1) * 1 → SameAt (cond c ((2 * eta - 1) * 1 + i) i) (rest z) (rest z')
    silent_rest false z z' e i h =
        same_at_left (silent_sums _ _ _ (λ j g. e j (omega arith)) i h)
        (λ s s'. coupled_map _ _ (λ u u' v. v) (like_sums _ _ _))
    silent_rest true z z' e i h =
        same_at_right (like_sums _ _ _) (λ s s' t. same_at_map _ _ (silent_sums _ _ _ (λ j g. e j (omega arith)) i h))

    abbrev kept : Bool → ℕ → ℕ
    kept c j = coeff_keep q c (coeff_of (weight eta j) (b j) % q) (coeff_of (weight eta j) (b' j) % q)

    pub silent-sampler : Silent (sampler_entries eta) (sampler eta b) (sampler eta b')
    unfolding sampler sampler_entries
    silent-sampler =
        cut At (2 * eta * bit_to_coeff_entries) ((2 * eta - 1) * 1 + (2 * eta - 1) * 1)
        (λ i h. same_at_left
        (silent-times (2 * eta) (λ j g. like-bit_to_coeff _ _ _) (λ j g. silent-bit_to_coeff _ _ _) i h) like-rest)
        (cut (λ i. At (2 * eta * bit_to_coeff_entries + i)) ((2 * eta - 1) * 1) ((2 * eta - 1) * 1)
        (λ i h. go false i h) (λ i h. go true i h))
      where
        At : ℕ → Type 0
        At i = SameAt i (sampler eta b) (sampler eta b')

        go : (c : Bool) (i : ℕ) → i < (2 * eta - 1) * 1
            → At (2 * eta * bit_to_coeff_entries + cond c ((2 * eta - 1) * 1 + i) i)
        go c i h =
            same_at_right (converted (kept c)) (λ z z' r.
            silent_rest c z z' (λ j g. share-coeff_keep c (r.at none none j g)) i h)
