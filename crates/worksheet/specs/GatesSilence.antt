-- Couplings of complement, exclusive or and Or, and of And between other entries.
use Prim.Native.Nat.{ℕ, zero, suc, ◌+◌, ◌<◌, ◌≤◌}
use Rattle.std.specs.Prelude.{◌≡◌, Bool, false, ltb}
use Rattle.std.proofs.Common.{ap, arith}
use Rattle.words.specs.Word.{xor, and, complement}
use Rattle.words.specs.Bits.{Bits, or}
use Rattle.words.specs.WordLaws.{xor-bits, and-bits, zero_bits}
use Rattle.worksheet.specs.Shares.{Shares}
use Rattle.worksheet.specs.Prog.{Prog, ◌>>=◌, entry}
use Rattle.worksheet.specs.Couple.{Coupled, ret_c, enter_c, Like, SameAt, here, there, coupled_bind, same_at_left}
use Rattle.worksheet.specs.Couple.{same_at_right}
use Rattle.worksheet.specs.Places.{cut}
use Rattle.worksheet.specs.SharingLaws.{share, Sharing, Apart, sharing-bits, apart-xor, share-keep, keep-bits}
use Rattle.worksheet.specs.SharingLaws.{xor_shares, apart-xor_shares, apart-xor_add, sharing-not_shares}
use Rattle.worksheet.specs.SharingLaws.{apart-not_shares, share-not_shares}
use Rattle.worksheet.specs.MaskedAnd.{masked_and}
use Rattle.worksheet.specs.EntryCounts.{and_entries, xor_entries, or_entries}
use Rattle.worksheet.specs.MaskedAndSilence.{like-masked_and, coupled-masked_and, same_at_masked_and, reads_left}
use Rattle.worksheet.specs.MaskedAndSilence.{reads_right, behind}
use Rattle.worksheet.specs.Gates.{masked_not, masked_xor, masked_or}

-- ---- complement

pub like-masked_not : (n : ℕ) (u u' : Shares) → Like 1 (masked_not n u) (masked_not n u')
unfolding masked_not entry ◌>>=◌
like-masked_not n u u' = enter_c (ret_c tt)

coupled-masked_not : {n d X X' : ℕ} {u u' : Shares} → Apart n d X X' u u'
    → Coupled (Apart n d (complement n X) (complement n X')) 1 (masked_not n u) (masked_not n u')
unfolding masked_not entry ◌>>=◌
coupled-masked_not a = enter_c (ret_c (apart-not_shares a))

pub same_at_masked_not : (n : ℕ) (u u' : Shares) → u.s0 ≡ u'.s0 → SameAt 0 (masked_not n u) (masked_not n u')
unfolding masked_not entry ◌>>=◌
same_at_masked_not n u u' e = here (ap (complement n) e) (ret_c tt)

-- ---- exclusive or

pub like-masked_xor : (u v u' v' : Shares) → Like xor_entries (masked_xor u v) (masked_xor u' v')
unfolding masked_xor entry ◌>>=◌
like-masked_xor u v u' v' = enter_c (enter_c (ret_c tt))

pub coupled-masked_xor : {n d e X Y X' Y' : ℕ} {u v u' v' : Shares} → Apart n d X X' u u' → Apart n e Y Y' v v'
    → Coupled (Apart n (xor d e) (xor X Y) (xor X' Y')) xor_entries (masked_xor u v) (masked_xor u' v')
unfolding masked_xor entry ◌>>=◌
coupled-masked_xor a b = enter_c (enter_c (ret_c (apart-xor_shares a b)))

-- entry i is share i of the sum
pub same_at_masked_xor : (u v u' v' : Shares) (i : ℕ) → i < xor_entries
    → share (ltb 0 i) (xor_shares u v) ≡ share (ltb 0 i) (xor_shares u' v')
    → SameAt i (masked_xor u v) (masked_xor u' v')
unfolding masked_xor entry ◌>>=◌
same_at_masked_xor u v u' v' zero h e = here e (enter_c (ret_c tt))
same_at_masked_xor u v u' v' (suc zero) h e = there (here e (ret_c tt))
same_at_masked_xor u v u' v' (suc (suc i)) h e = absurd (omega arith)

-- ---- And, and what is entered of its result

-- entry i of t and t' is equal where the sharings of Z and of Z' that they work on are set apart by `by`
record Settled (n Z Z' i : ℕ) (t t' : Shares → Prog Shares) : Type 0 where
  pub by : ℕ
  pub bits : Bits n by
  pub same : (z z' : Shares) → Apart n by Z Z' z z' → SameAt i (t z) (t' z')

settled-masked_not : {n Z Z' : ℕ} (i : ℕ) → i < 1 → Settled n Z Z' i (masked_not n) (masked_not n)
settled-masked_not {n} zero k =
    record { by = 0; bits = zero_bits; same = λ z z' r. same_at_masked_not n z z' (share-keep false r) }
settled-masked_not (suc i) k = absurd (omega arith)

settled-masked_xor : {n W Z W' Z' : ℕ} {w w' : Shares} → Sharing n W w → Sharing n W' w' → Bits n Z → Bits n Z'
    → (i : ℕ) → i < xor_entries → Settled n Z Z' i (masked_xor w) (masked_xor w')
settled-masked_xor {w = w} {w' = w'} s s' b b' i k =
    record {
      by = _;
      bits =
          xor-bits (xor-bits s.bits0 s'.bits0)
          (keep-bits (ltb 0 i) (xor-bits (sharing-bits s) b) (xor-bits (sharing-bits s') b'));
      same = λ z z' r. same_at_masked_xor w z w' z' i k (share-keep (ltb 0 i) (apart-xor_add s s' r));
    }

module _ {n X Y X' Y' : ℕ} {u v u' v' : Shares} (h : n ≤ 64)
    (su : Sharing n X u) (sv : Sharing n Y v) (su' : Sharing n X' u') (sv' : Sharing n Y' v') where
  -- And's entries by the shares that they read, those of t by the mask
  same_at_masked_and_bind : {m : ℕ} {t t' : Shares → Prog Shares} → ((z z' : Shares) → Like m (t z) (t' z'))
      → ((i : ℕ) → i < m → Settled n (and X Y) (and X' Y') i t t')
      → (i : ℕ) → i < and_entries + m → share (reads_left i) u ≡ share (reads_left i) u'
      → share (reads_right i) v ≡ share (reads_right i) v'
      → SameAt i (masked_and n u v >>= t) (masked_and n u' v' >>= t')
  same_at_masked_and_bind {m} {t} {t'} l e =
      cut
      (λ i. share (reads_left i) u ≡ share (reads_left i) u' → share (reads_right i) v ≡ share (reads_right i) v'
      → SameAt i (masked_and n u v >>= t) (masked_and n u' v' >>= t')) and_entries m
      (λ i k p q. same_at_left (same_at_masked_and h su sv su' sv' i k p q) l)
      (λ i k p q. same_at_right (coupled-masked_and h su sv su' sv' (e i k).bits) (e i k).same)

-- w xor And(u, v), as chi's lane, the carry and selection end
abbrev pub xor_and : ℕ → Shares → Shares → Shares → Prog Shares
xor_and n w u v = masked_and n u v >>= λ z. masked_xor w z

pub like-xor_and : (n : ℕ) (w u v w' u' v' : Shares)
    → Like (and_entries + xor_entries) (xor_and n w u v) (xor_and n w' u' v')
like-xor_and n w u v w' u' v' = coupled_bind (like-masked_and n u v u' v') (λ z z' r. like-masked_xor w z w' z')

module _ {n W X Y W' X' Y' : ℕ} {w u v w' u' v' : Shares} (h : n ≤ 64) (sw : Sharing n W w) (su : Sharing n X u)
    (sv : Sharing n Y v) (sw' : Sharing n W' w') (su' : Sharing n X' u') (sv' : Sharing n Y' v') where
  -- fresh, whatever w stands at
  pub coupled-xor_and : {d : ℕ} → Bits n d
      → Coupled (Apart n d (xor W (and X Y)) (xor W' (and X' Y'))) (and_entries + xor_entries) (xor_and n w u v)
      (xor_and n w' u' v')
  unfolding masked_xor entry ◌>>=◌
  coupled-xor_and b =
      coupled_bind (coupled-masked_and h su sv su' sv' (xor-bits (xor-bits sw.bits0 sw'.bits0) b)) (λ z z' r.
      enter_c (enter_c (ret_c (apart-xor_add sw sw' r))))

  -- And's entries by the shares that they read, the two sums by the mask
  pub same_at_xor_and : (i : ℕ) → i < and_entries + xor_entries → share (reads_left i) u ≡ share (reads_left i) u'
      → share (reads_right i) v ≡ share (reads_right i) v' → SameAt i (xor_and n w u v) (xor_and n w' u' v')
  same_at_xor_and =
      same_at_masked_and_bind h su sv su' sv' (λ z z'. like-masked_xor w z w' z')
      (settled-masked_xor sw sw' (and-bits (sharing-bits su) (sharing-bits sv))
      (and-bits (sharing-bits su') (sharing-bits sv')))

-- ---- Or

-- after the complements of u and v
like_not_and : (n : ℕ) (u v u' v' : Shares)
    → Like (and_entries + 1) (masked_and n u v >>= masked_not n) (masked_and n u' v' >>= masked_not n)
like_not_and n u v u' v' = coupled_bind (like-masked_and n u v u' v') (λ z z' r. like-masked_not n z z')

pub like-masked_or : (n : ℕ) (u v u' v' : Shares) → Like or_entries (masked_or n u v) (masked_or n u' v')
unfolding masked_or
like-masked_or n u v u' v' =
    coupled_bind (like-masked_not n u u') (λ a a' p.
    coupled_bind (like-masked_not n v v') (λ b b' q. like_not_and n a b a' b'))

-- the share of u that entry i reads, and the share of v
abbrev pub or_reads_left : ℕ → Bool
or_reads_left = behind false (behind false reads_left)

abbrev pub or_reads_right : ℕ → Bool
or_reads_right = behind false (behind false reads_right)

module _ {n X Y X' Y' : ℕ} {u v u' v' : Shares} (h : n ≤ 64)
    (su : Sharing n X u) (sv : Sharing n Y v) (su' : Sharing n X' u') (sv' : Sharing n Y' v') where
  -- the result is fresh
  pub coupled-masked_or : {d : ℕ} → Bits n d
      → Coupled (Apart n d (or n X Y) (or n X' Y')) or_entries (masked_or n u v) (masked_or n u' v')
  unfolding masked_or or
  coupled-masked_or w =
      coupled_bind (coupled-masked_not (apart-xor su su')) (λ a a' p.
      coupled_bind (coupled-masked_not (apart-xor sv sv')) (λ b b' q.
      coupled_bind (coupled-masked_and h p.left q.left p.right q.right w) (λ z z' r. coupled-masked_not r)))

  pub same_at_masked_or : (i : ℕ) → i < or_entries → share (or_reads_left i) u ≡ share (or_reads_left i) u'
      → share (or_reads_right i) v ≡ share (or_reads_right i) v' → SameAt i (masked_or n u v) (masked_or n u' v')
  unfolding masked_or masked_not entry ◌>>=◌
  same_at_masked_or zero k p q = here (ap (complement n) p) (enter_c (like_not_and n _ _ _ _))
  same_at_masked_or (suc zero) k p q = there (here (ap (complement n) q) (like_not_and n _ _ _ _))
  same_at_masked_or (suc (suc i)) k p q =
      there (there
      (same_at_masked_and_bind h (sharing-not_shares su) (sharing-not_shares sv) (sharing-not_shares su')
      (sharing-not_shares sv')
      (like-masked_not n) settled-masked_not i (omega arith) (share-not_shares n (reads_left i) u u' p)
      (share-not_shares n (reads_right i) v v' q)))
