-- Selection as a stage: an entry asks for one share of the bit and for one of the words, and each result can keep
-- either share.
use Prim.Native.Nat.{ℕ, zero, suc, ◌-◌, ◌*◌, ◌^◌, ◌<◌}
use Rattle.std.specs.Prelude.{◌≡◌, Bool, true, false, List}
use Rattle.std.proofs.Common.{ap, ap₂, arith}
use Rattle.words.specs.Word.{xor}
use Rattle.words.specs.WordLaws.{xor-bits, and-bits}
use Rattle.worksheet.specs.Shares.{Shares}
use Rattle.worksheet.specs.Prog.{Prog, ◌>>=◌, entry, times}
use Rattle.worksheet.specs.Couple.{Coupled, enter_c, Like, SameAt, here, there, coupled_bind}
use Rattle.worksheet.specs.CoupleLoops.{coupled-times, like-times, same_at_times}
use Rattle.worksheet.specs.Places.{turns}
use Rattle.worksheet.specs.Stage.{Stage}
use Rattle.worksheet.specs.SharingLaws.{share, sharing-bits, apart-xor, sharing-xor_shares, share-xor_shares}
use Rattle.worksheet.specs.Choice.{Both, both_bits, Kept, KeptWords, KeptList, Way, keeping, coupled-way}
use Rattle.worksheet.specs.MaskedAndSilence.{reads_left, reads_right, behind}
use Rattle.worksheet.specs.Gates.{masked_xor}
use Rattle.worksheet.specs.GatesSilence.{like-masked_xor, coupled-masked_xor, like-xor_and, coupled-xor_and}
use Rattle.worksheet.specs.GatesSilence.{same_at_xor_and}
use Rattle.masked_comparison.specs.Comparison.{copies, select}
use Rattle.masked_comparison.specs.EntryCounts.{select_entries}
use Rattle.masked_comparison.specs.SelectionLaws.{copies_bits}

-- ---- 64 copies of a bit

both-copies : {b b' : Shares} → Both 1 b b' → Both 64 (copies b) (copies b')
unfolding copies
both-copies r =
    both_bits (copies_bits r.left.bits0) (copies_bits r.left.bits1) (copies_bits r.right.bits0)
    (copies_bits r.right.bits1)

share-copies : (q : Bool) (b b' : Shares) → share q b ≡ share q b' → share q (copies b) ≡ share q (copies b')
unfolding copies
share-copies false b b' e = ap (λ (t : ℕ). t * (2 ^ 64 - 1)) e
share-copies true b b' e = ap (λ (t : ℕ). t * (2 ^ 64 - 1)) e

-- ---- one word

like-select : (b x y b' x' y' : Shares) → Like select_entries (select b x y) (select b' x' y')
unfolding select
like-select b x y b' x' y' =
    coupled_bind (like-masked_xor x y x' y') (λ d d' r. like-xor_and 64 y (copies b) d y' (copies b') d')

-- the share of the bit that entry i reads, or share 0 where it reads none, and the share of the words
abbrev bit_read : ℕ → Bool
bit_read = behind false (behind false reads_left)

abbrev word_read : ℕ → Bool
word_read = behind false (behind true reads_right)

module _ {b x y b' x' y' : Shares} (rb : Both 1 b b') (rx : Both 64 x x') (ry : Both 64 y y') where
  -- the result is fresh
  coupled-select : {S : Shares → Shares → Type 0} → Way 64 S
      → Coupled S select_entries (select b x y) (select b' x' y')
  unfolding select
  coupled-select s =
      let k = both-copies rb in
      coupled_bind (coupled-masked_xor (apart-xor rx.left rx.right) (apart-xor ry.left ry.right)) (λ d d' r.
      coupled-way s
      (xor-bits (sharing-bits ry.left) (and-bits (sharing-bits k.left) (sharing-bits r.left)))
      (xor-bits (sharing-bits ry.right) (and-bits (sharing-bits k.right) (sharing-bits r.right)))
      (λ e w. coupled-xor_and (omega arith) ry.left k.left r.left ry.right k.right r.right w))

  same_at_select : (i : ℕ) → i < select_entries → share (bit_read i) b ≡ share (bit_read i) b'
      → share (word_read i) x ≡ share (word_read i) x'
      → share (word_read i) y ≡ share (word_read i) y' → SameAt i (select b x y) (select b' x' y')
  unfolding select masked_xor entry ◌>>=◌
  same_at_select zero h e f g = here (ap₂ xor f g) (enter_c (like-xor_and 64 _ _ _ _ _ _))
  same_at_select (suc zero) h e f g = there (here (ap₂ xor f g) (like-xor_and 64 _ _ _ _ _ _))
  same_at_select (suc (suc i)) h e f g =
      let k = both-copies rb in
      there (there
      (same_at_xor_and (omega arith) ry.left k.left (sharing-xor_shares rx.left ry.left) ry.right k.right
      (sharing-xor_shares rx.right ry.right) i (omega arith) (share-copies (reads_left i) b b' e)
      (share-xor_shares (reads_right i) x y x' y' f g)))

-- ---- n words

pub record Operands : Type 0 where
  pub bit : Shares
  pub left : ℕ → Shares
  pub right : ℕ → Shares

-- share c.0 of the bit is equal, and share c.1 of the words
pub record KeptOperands (n : ℕ) (c : Bool × Bool) (a a' : Operands) : Type 0 where
  pub bit : Kept 1 c.0 a.bit a'.bit
  pub left : KeptWords n (λ j. c.1) a.left a'.left
  pub right : KeptWords n (λ j. c.1) a.right a'.right

module _ (n : ℕ) where
  abbrev pub selects : Operands → Prog (List Shares)
  selects a = times n (λ j. select a.bit (a.left j) (a.right j))

  abbrev Entry : ℕ → Type 0
  Entry k = (c : Bool × Bool) × ((a a' : Operands) → KeptOperands n c a a' → SameAt k (selects a) (selects a'))

  pub selects_stage : Stage (KeptOperands n) (KeptList n) (n * select_entries) selects selects
  selects_stage =
      record {
        like = λ a a'. like-times n (λ j h. like-select _ _ _ _ _ _);
        entry =
            turns Entry n select_entries (λ j i h g. (
              (bit_read i, word_read i),
              λ a a' r.
                  let x = r.left.at j h in
                  let y = r.right.at j h in
                  same_at_times n j (λ j h. like-select _ _ _ _ _ _) h
                  (same_at_select r.bit.both x.both y.both i g r.bit.same x.same y.same),
            ));
        fresh = λ c. (
          (true, true),
          λ a a' r.
              coupled-times n (λ j h.
              coupled-select r.bit.both (r.left.at j h).both (r.right.at j h).both (keeping (c j))),
        );
      }
