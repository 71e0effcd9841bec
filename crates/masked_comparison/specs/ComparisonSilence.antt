-- The comparison with public words, as a stage: the equal bit can keep either share.
use Prim.Native.Nat.{ℕ, zero, suc, ◌+◌, ◌-◌, ◌*◌, ◌<◌}
use Rattle.std.specs.Prelude.{◌≡◌, Bool, true, false, get_or}
use Rattle.std.proofs.Common.{ap, arith}
use Rattle.words.specs.Word.{xor}
use Rattle.words.specs.Bits.{Bits}
use Rattle.words.specs.WordLaws.{xor-bits, complement-bits}
use Rattle.worksheet.specs.Shares.{Shares}
use Rattle.worksheet.specs.Prog.{Prog, ret, ◌>>=◌, entry}
use Rattle.worksheet.specs.Couple.{ret_c, enter_c, Silent, here, same_at_recount}
use Rattle.worksheet.specs.CoupleLoops.{coupled-times, like-times, silent-times}
use Rattle.worksheet.specs.Stage.{Stage, and_then, comap}
use Rattle.worksheet.specs.Sharing.{shares, none}
use Rattle.worksheet.specs.SharingLaws.{share, not_shares, share-not_shares}
use Rattle.worksheet.specs.Choice.{both_bits, Kept, KeptWords, KeptList}
use Rattle.worksheet.specs.Gates.{masked_not}
use Rattle.worksheet.specs.GatesSilence.{like-masked_not, same_at_masked_not}
use Rattle.masked_comparison.specs.Comparison.{add_public, all_zero}
use Rattle.masked_comparison.specs.EntryCounts.{all_zero_entries}
use Rattle.masked_comparison.specs.FoldSilence.{fold_or-stage}
use Rattle.masked_comparison.specs.HalvesSilence.{KeptHalves, keeping_halves, halves-stage}

-- ---- public words go into share 0

abbrev add_word : ℕ → Shares → Shares
add_word c w = shares (xor w.s0 c) w.s1

kept-add_word : {c : ℕ} (q : Bool) {w w' : Shares} → Bits 64 c → Kept 64 q w w'
    → Kept 64 q (add_word c w) (add_word c w')
kept-add_word {c} q {w} {w'} b k =
    record {
      both =
          both_bits (xor-bits k.both.left.bits0 b) k.both.left.bits1 (xor-bits k.both.right.bits0 b)
          k.both.right.bits1;
      same = go q k;
    }
  where
    go : (q : Bool) → Kept 64 q w w' → share q (add_word c w) ≡ share q (add_word c w')
    go false k = ap (λ (t : ℕ). xor t c) k.same
    go true k = k.same

module _ (n : ℕ) (c : ℕ → ℕ) (bits : (j : ℕ) → Bits 64 (c j)) where
  abbrev turn : (ℕ → Shares) → ℕ → Prog Shares
  turn w j = entry (xor (w j).s0 (c j)) >>= λ x. ret (shares x (w j).s1)

  silent-turn : {w w' : ℕ → Shares} → KeptWords n (λ j. false) w w' → (j : ℕ) → j < n → Silent 1 (turn w j) (turn w' j)
  unfolding entry ◌>>=◌
  silent-turn r j h zero g = here (ap (λ (t : ℕ). xor t (c j)) (r.at j h).same) (ret_c tt)
  silent-turn r j h (suc i) g = absurd (omega arith)

  add_public-stage : Stage (KeptWords n) (KeptList n) (n * 1) (add_public n c) (add_public n c)
  unfolding add_public entry ◌>>=◌
  add_public-stage =
      record {
        like = λ w w'. like-times n (λ j h. enter_c (ret_c tt));
        entry = λ i h. ((λ j. false), λ w w' r. silent-times n (λ j g. enter_c (ret_c tt)) (silent-turn r) i h);
        fresh = λ e. (e, λ w w' r. coupled-times n (λ j h. enter_c (ret_c (kept-add_word (e j) (bits j) (r.at j h)))));
      }

-- ---- the complement of one share

kept-not_shares : {n : ℕ} (q : Bool) {u u' : Shares} → Kept n q u u' → Kept n q (not_shares n u) (not_shares n u')
kept-not_shares {n} q {u} {u'} k =
    record {
      both =
          both_bits (complement-bits k.both.left.bits0) k.both.left.bits1
          (complement-bits k.both.right.bits0)
          k.both.right.bits1;
      same = share-not_shares n q u u' k.same;
    }

masked_not-stage : (n : ℕ) → Stage (Kept n) (Kept n) 1 (masked_not n) (masked_not n)
unfolding masked_not entry ◌>>=◌
masked_not-stage n =
    record {
      like = like-masked_not n;
      entry = λ i h. (false, λ u u' k. same_at_recount (omega arith) (same_at_masked_not n u u' k.same));
      fresh = λ q. (q, λ u u' k. enter_c (ret_c (kept-not_shares q k)));
    }

-- ---- the equal bit

all_zero-stage : (n : ℕ) → 0 < n → Stage (KeptWords (n + 1)) (Kept 1) (all_zero_entries n) (all_zero n) (all_zero n)
unfolding all_zero all_zero_entries
all_zero-stage n pos =
    and_then (fold_or-stage n pos (keeping_halves 6))
    (and_then (halves-stage 6 (omega arith))
    (comap (KeptHalves 0) (λ b. b) (λ b. b) (λ q. (q, q)) (λ q b b' k. k) (masked_not-stage 1)))

-- n words compared with n public words
abbrev pub compare : ℕ → (ℕ → ℕ) → (ℕ → Shares) → Prog Shares
compare n c w = add_public n c w >>= λ d. all_zero (n - 1) (λ j. get_or d j none)

pub compare-stage : (n : ℕ) (c : ℕ → ℕ) → 1 < n → ((j : ℕ) → Bits 64 (c j))
    → Stage (KeptWords n) (Kept 1) (n * 1 + all_zero_entries (n - 1)) (compare n c) (compare n c)
compare-stage n c pos bits =
    and_then (add_public-stage n c bits)
    (comap (KeptList n) _ _ (λ e. e) (λ e d d' r. record { at = λ j h. r.at none none j (omega arith) })
    (all_zero-stage (n - 1) (omega arith)))
