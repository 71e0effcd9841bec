-- A word folded to one bit, half by half, as a stage: an entry asks for one share of the low half and for one of the
-- high half.
use Rattle.std.specs.Prelude.{ℕ, zero, suc, ◌+◌, ◌-◌, ◌*◌, ◌/◌, ◌^◌, ◌<◌, ◌≤◌, ◌≡◌, Bool, true}
use Rattle.std.proofs.Common.{sym, ap, ◌∙◌, subst, arith, pow-add, pow_mono}
use Rattle.std.proofs.Math.Nat.{sub_self, sub-zero, two-pow-succ}
use Rattle.std.proofs.Math.Arith.{digits_lt, digits_div, digits_mod}
use Rattle.words.specs.Word.{low}
use Rattle.words.specs.Bits.{Bits}
use Rattle.words.specs.WordLaws.{low_bits, high_bits, low-xor, xor_shift}
use Rattle.worksheet.specs.Shares.{Shares}
use Rattle.worksheet.specs.Stage.{Stage, loop-stage}
use Rattle.worksheet.specs.SharingLaws.{Apart, apart_cong, keep, keep-bits}
use Rattle.worksheet.specs.Choice.{Kept, chosen, Way, keeping}
use Rattle.worksheet.specs.EntryCounts.{or_entries}
use Rattle.worksheet.specs.GatesSilence.{or_reads_left, or_reads_right, like-masked_or}
use Rattle.masked_comparison.specs.Comparison.{halve, halves}
use Rattle.masked_comparison.specs.ComparisonLaws.{low_half, high_half, sharing-low_half, sharing-high_half}
use Rattle.masked_comparison.specs.FoldSilence.{coupled-masked_or-way, same_at_masked_or-kept}

-- ---- the halves of a word of h + h bits

module _ (h : ℕ) where
  apart-low_half : {d X X' : ℕ} {z z' : Shares} → Apart (h + h) d X X' z z'
      → Apart h (low h d) (low h X) (low h X') (low_half h z) (low_half h z')
  apart-low_half {d} {z = z} a =
      record {
        left = sharing-low_half h a.left;
        right = sharing-low_half h a.right;
        by = ap (low h) a.by ∙ low-xor h z.s0 d;
      }

  apart-high_half : {d X X' : ℕ} {z z' : Shares} → Apart (h + h) d X X' z z'
      → Apart h (d / 2 ^ h) (X / 2 ^ h) (X' / 2 ^ h) (high_half h z) (high_half h z')
  apart-high_half {d} {z = z} a =
      record {
        left = sharing-high_half h a.left;
        right = sharing-high_half h a.right;
        by = ap (λ (t : ℕ). t / 2 ^ h) a.by ∙ xor_shift h z.s0 d;
      }

-- share p of the low half is equal, and share q of the high half
pub record Mixed (h : ℕ) (p q : Bool) (z z' : Shares) : Type 0 where
  pub lo : Kept h p (low_half h z) (low_half h z')
  pub hi : Kept h q (high_half h z) (high_half h z')

module _ (h : ℕ) (p q : Bool) where
  -- the difference that makes them so
  abbrev mixture : ℕ → ℕ → ℕ
  mixture X X' = keep q (X / 2 ^ h) (X' / 2 ^ h) * 2 ^ h + keep p (low h X) (low h X')

  mixture_bits : {X X' : ℕ} → Bits (h + h) X → Bits (h + h) X' → Bits (h + h) (mixture X X')
  mixture_bits {X} {X'} w w' =
      let a = keep-bits q (high_bits h w) (high_bits h w') in
      let b = keep-bits p (low_bits X) (low_bits X') in
      record { lt = subst (λ (t : ℕ). mixture X X' < t) (sym (pow-add 2 h h)) (digits_lt a.lt b.lt) }

  mixed : {X X' : ℕ} {z z' : Shares} → Apart (h + h) (mixture X X') X X' z z' → Mixed h p q z z'
  unfolding low
  mixed {X} {X'} a =
      let b : Bits h (keep p (low h X) (low h X')) = keep-bits p (low_bits X) (low_bits X') in
      record {
        lo = chosen p (apart_cong (digits_mod _ b.lt) (apart-low_half h a));
        hi = chosen q (apart_cong (digits_div _ b.lt) (apart-high_half h a));
      }

  mixing : Way (h + h) (Mixed h p q)
  mixing = record { difference = mixture; bits = λ a b. mixture_bits a b; holds = λ a. mixed a }

-- ---- halves

-- what is asked of a word of 2^k bits: share c.0 of its low half and share c.1 of its high half; of a bit, share c.0
abbrev pub KeptHalves : ℕ → Bool × Bool → Shares → Shares → Type 0
KeptHalves zero c = Kept 1 c.0
KeptHalves (suc k) c = Mixed (2 ^ k) c.0 c.1

pub keeping_halves : (k : ℕ) (c : Bool × Bool) → Way (2 ^ k) (KeptHalves k c)
keeping_halves zero c = keeping c.0
keeping_halves (suc k) c =
    let e : 2 ^ k + 2 ^ k ≡ 2 ^ suc k = omega (arith, two-pow-succ k) in
    rw e at (mixing (2 ^ k) c.0 c.1)

halve-stage : (k : ℕ) → k ≤ 6 → Stage (KeptHalves (suc k)) (KeptHalves k) or_entries (halve (2 ^ k)) (halve (2 ^ k))
unfolding halve
halve-stage k le =
    let h : 2 ^ k ≤ 64 = pow_mono le in
    record {
      like = λ z z'. like-masked_or (2 ^ k) _ _ _ _;
      entry = λ i g. ((or_reads_left i, or_reads_right i), λ z z' m. same_at_masked_or-kept h g m.lo m.hi);
      fresh = λ d. ((true, true), λ z z' m. coupled-masked_or-way h m.lo.both m.hi.both (keeping_halves k d));
    }

pub halves-stage : (n : ℕ) → n ≤ 6 → Stage (KeptHalves n) (KeptHalves 0) (n * or_entries) (halves n) (halves n)
unfolding halves
halves-stage n le = rw (sub_self n, sub-zero n) at (loop-stage {R = λ j. KeptHalves (n - j)} n turn)
  where
    turn : (j : ℕ) → j < n
        → Stage (KeptHalves (n - j)) (KeptHalves (n - suc j)) or_entries (halve (2 ^ (n - 1 - j)))
        (halve (2 ^ (n - 1 - j)))
    turn j h =
        let a : n - j ≡ suc (n - 1 - j) = omega arith in
        let b : n - suc j ≡ n - 1 - j = omega arith in
        rw (a, b) (halve-stage (n - 1 - j) (omega arith))
