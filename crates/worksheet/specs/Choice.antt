-- Choices of the share that is equal under both keys. What the parts of the worksheet hand on is stated by them.
use Rattle.std.specs.Prelude.{ℕ, ◌<◌, ◌≡◌, Bool, true, false, List, get_or}
use Rattle.std.proofs.Common.{ap}
use Rattle.words.specs.Bits.{Bits}
use Rattle.words.specs.TabLaws.{tab_cong}
use Rattle.worksheet.specs.Shares.{Shares}
use Rattle.worksheet.specs.Prog.{Prog}
use Rattle.worksheet.specs.Couple.{Coupled, coupled_weaken}
use Rattle.worksheet.specs.Turns.{Turns}
use Rattle.worksheet.specs.Sharing.{joined}
use Rattle.worksheet.specs.SharingLaws.{share, Sharing, sharing-joined, Apart, keep, keep-bits, share-keep}
use Rattle.worksheet.specs.SharedList.{SharedList, shared_at, unzip}

-- two sharings of words of n bits
pub record Both (n : ℕ) (z z' : Shares) : Type 0 where
  pub left : Sharing n (joined z) z
  pub right : Sharing n (joined z') z'

-- and their shares q are equal
pub record Kept (n : ℕ) (q : Bool) (z z' : Shares) : Type 0 where
  pub both : Both n z z'
  pub same : share q z ≡ share q z'

pub both_bits : {n : ℕ} {z z' : Shares} → Bits n z.s0 → Bits n z.s1 → Bits n z'.s0 → Bits n z'.s1
    → Both n z z'
both_bits a b a' b' = record { left = sharing-joined a b; right = sharing-joined a' b' }

apart-both : {n d X X' : ℕ} {z z' : Shares} → Apart n d X X' z z' → Both n z z'
apart-both a = both_bits a.left.bits0 a.left.bits1 a.right.bits0 a.right.bits1

pub chosen : {n : ℕ} (q : Bool) {X X' : ℕ} {z z' : Shares} → Apart n (keep q X X') X X' z z' → Kept n q z z'
chosen q a = record { both = apart-both a; same = share-keep q a }

-- a difference of n bits by which sharings are set apart so that S holds of them
pub record Way (n : ℕ) (S : Shares → Shares → Type 0) : Type 0 where
  pub difference : ℕ → ℕ → ℕ
  pub bits : {X X' : ℕ} → Bits n X → Bits n X' → Bits n (difference X X')
  pub holds : {X X' : ℕ} {z z' : Shares} → Apart n (difference X X') X X' z z' → S z z'

pub keeping : {n : ℕ} (q : Bool) → Way n (Kept n q)
keeping q = record { difference = keep q; bits = λ a b. keep-bits q a b; holds = λ a. chosen q a }

-- what can be set apart by every difference can be set apart so
pub coupled-way : {n m X X' : ℕ} {S : Shares → Shares → Type 0} {p p' : Prog Shares} → Way n S → Bits n X → Bits n X'
    → ((d : ℕ) → Bits n d → Coupled (Apart n d X X') m p p') → Coupled S m p p'
coupled-way s a b c = coupled_weaken (λ z z' r. s.holds r) (c _ (s.bits a b))

-- ---- sequences of words

-- the first n, each with the share chosen for it
pub record KeptWords (n : ℕ) (c : ℕ → Bool) (w w' : ℕ → Shares) : Type 0 where
  pub at : (j : ℕ) → j < n → Kept 64 (c j) (w j) (w' j)

abbrev pub KeptShared : ℕ → (ℕ → Bool) → SharedList → SharedList → Type 0
KeptShared n c s s' = KeptWords n c (shared_at s) (shared_at s')

-- n words in a list
abbrev pub KeptList : ℕ → (ℕ → Bool) → List Shares → List Shares → Type 0
KeptList n c = Turns (λ j. Kept 64 (c j)) n

-- shares q of the first n are equal
pub record SameShares (n : ℕ) (q : Bool) (w w' : ℕ → Shares) : Type 0 where
  pub at : (j : ℕ) → j < n → share q (w j) ≡ share q (w' j)

-- ---- lists

-- share 0 at false, share 1 at true
abbrev pub list_share : Bool → SharedList → List ℕ
list_share false s = s.s0
list_share true s = s.s1

-- the shares q of two lists are equal
pub record SameShare (q : Bool) (s s' : SharedList) : Type 0 where
  pub same : list_share q s ≡ list_share q s'

pub same_share_at : (q : Bool) {s s' : SharedList} → SameShare q s s' → (i : ℕ)
    → share q (shared_at s i) ≡ share q (shared_at s' i)
same_share_at false r i = ap (λ (l : List ℕ). get_or l i 0) r.same
same_share_at true r i = ap (λ (l : List ℕ). get_or l i 0) r.same

pub same_share_unzip : (n : ℕ) (q : Bool) (f f' : ℕ → Shares) → ((i : ℕ) → i < n → share q (f i) ≡ share q (f' i))
    → SameShare q (unzip n f) (unzip n f')
unfolding unzip
same_share_unzip n false f f' e = record { same = tab_cong n e }
same_share_unzip n true f f' e = record { same = tab_cong n e }
