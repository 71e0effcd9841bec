-- Sharings of a word, and pairs of sharings that are compared.
use Rattle.std.specs.Prelude.{ℕ, ◌≡◌, refl, Bool, true, false, [], ◌∷◌}
use Rattle.std.proofs.Common.{sym, ap, ap₂, ◌∙◌, subst}
use Rattle.words.specs.Word.{xor, complement}
use Rattle.words.specs.Bits.{Bits}
use Rattle.words.specs.WordLaws.{xor-bits, complement-bits, zero_bits, xor_same, xor_zero, xor_cancel, xor_right_comm}
use Rattle.words.specs.WordLaws.{xor_swap, complement-xor}
use Rattle.words.specs.Formula.{boole, at, ◌⊕◌}
use Rattle.worksheet.specs.Shares.{Shares}
use Rattle.worksheet.specs.Sharing.{joined, none, shares}

-- share 0 at false, share 1 at true
abbrev pub share : Bool → Shares → ℕ
share false z = z.s0
share true z = z.s1

-- z is a sharing of X, a word of n bits
pub record Sharing (n X : ℕ) (z : Shares) : Type 0 where
  pub bits0 : Bits n z.s0
  pub bits1 : Bits n z.s1
  pub joins : joined z ≡ X

-- sharings of X and of X' whose shares 0 differ by d
pub record Apart (n d X X' : ℕ) (z z' : Shares) : Type 0 where
  pub left : Sharing n X z
  pub right : Sharing n X' z'
  pub by : z'.s0 ≡ xor z.s0 d

-- the difference of shares 0 at which share q is equal
abbrev pub keep : Bool → ℕ → ℕ → ℕ
keep false X X' = 0
keep true X X' = xor X X'

pub sharing-bits : {n X : ℕ} {z : Shares} → Sharing n X z → Bits n X
sharing-bits {n} s = subst (Bits n) s.joins (xor-bits s.bits0 s.bits1)

pub sharing-joined : {n : ℕ} {z : Shares} → Bits n z.s0 → Bits n z.s1 → Sharing n (joined z) z
sharing-joined a b = record { bits0 = a; bits1 = b; joins = refl }

-- two sharings as they stand
pub apart-xor : {n X X' : ℕ} {z z' : Shares} → Sharing n X z → Sharing n X' z'
    → Apart n (xor z.s0 z'.s0) X X' z z'
apart-xor {z = z} {z' = z'} a b = record { left = a; right = b; by = sym (xor_cancel z.s0 z'.s0) }

pub apart_cong : {n d e X X' : ℕ} {z z' : Shares} → d ≡ e → Apart n d X X' z z' → Apart n e X X' z z'
apart_cong e a = rw e at a

-- their shares 1 differ by d, X and X' together
apart_share1 : {n d X X' : ℕ} {z z' : Shares} → Apart n d X X' z z' → z'.s1 ≡ xor z.s1 (xor d (xor X X'))
apart_share1 {n} {d} {X} {X'} {z} {z'} a =
    sym (xor_cancel z'.s0 z'.s1)
    ∙ ap₂ xor a.by a.right.joins
    ∙ boole (at 0 ⊕ at 2 ⊕ at 3) (at 1 ⊕ (at 2 ⊕ ((at 0 ⊕ at 1) ⊕ at 3))) (z.s0 ∷ z.s1 ∷ d ∷ X' ∷ []) tt
    ∙ ap (λ (t : ℕ). xor z.s1 (xor d (xor t X'))) a.left.joins

-- ---- one share kept equal

pub share-keep : (q : Bool) {n X X' : ℕ} {z z' : Shares} → Apart n (keep q X X') X X' z z' → share q z ≡ share q z'
share-keep false {z = z} a = sym (a.by ∙ xor_zero z.s0)
share-keep true {X = X} {X' = X'} {z = z} a =
    sym (apart_share1 a ∙ ap (xor z.s1) (xor_same (xor X X')) ∙ xor_zero z.s1)

pub keep-bits : {n : ℕ} (q : Bool) {X X' : ℕ} → Bits n X → Bits n X' → Bits n (keep q X X')
keep-bits false a b = zero_bits
keep-bits true a b = xor-bits a b

pub keep-xor : (q : Bool) (X Y X' Y' : ℕ) → xor (keep q X X') (keep q Y Y') ≡ keep q (xor X Y) (xor X' Y')
keep-xor false X Y X' Y' = xor_zero 0
keep-xor true X Y X' Y' = xor_swap X X' Y Y'

pub keep_same : (q : Bool) (X : ℕ) → keep q X X ≡ 0
keep_same false X = refl
keep_same true X = xor_same X

-- ---- sums, share by share

abbrev pub xor_shares : Shares → Shares → Shares
xor_shares a b = shares (xor a.s0 b.s0) (xor a.s1 b.s1)

pub sharing-xor_shares : {n X Y : ℕ} {a b : Shares} → Sharing n X a → Sharing n Y b
    → Sharing n (xor X Y) (xor_shares a b)
sharing-xor_shares {a = a} {b = b} s t =
    record {
      bits0 = xor-bits s.bits0 t.bits0;
      bits1 = xor-bits s.bits1 t.bits1;
      joins = xor_swap a.s0 b.s0 a.s1 b.s1 ∙ ap₂ xor s.joins t.joins;
    }

pub apart-xor_shares : {n d e X Y X' Y' : ℕ} {a b a' b' : Shares} → Apart n d X X' a a' → Apart n e Y Y' b b'
    → Apart n (xor d e) (xor X Y) (xor X' Y') (xor_shares a b) (xor_shares a' b')
apart-xor_shares {d = d} {e = e} {a = a} {b = b} s t =
    record {
      left = sharing-xor_shares s.left t.left;
      right = sharing-xor_shares s.right t.right;
      by = ap₂ xor s.by t.by ∙ xor_swap a.s0 d b.s0 e;
    }

pub share-xor_shares : (q : Bool) (a b a' b' : Shares) → share q a ≡ share q a' → share q b ≡ share q b'
    → share q (xor_shares a b) ≡ share q (xor_shares a' b')
share-xor_shares false a b a' b' e f = ap₂ xor e f
share-xor_shares true a b a' b' e f = ap₂ xor e f

-- a sum set apart by d, whatever a stands at
pub apart-xor_add : {n d X Y X' Y' : ℕ} {a b a' b' : Shares} → Sharing n X a → Sharing n X' a'
    → Apart n (xor (xor a.s0 a'.s0) d) Y Y' b b'
    → Apart n d (xor X Y) (xor X' Y') (xor_shares a b) (xor_shares a' b')
apart-xor_add {d = d} {a = a} {a' = a'} s t r =
    apart_cong (xor_cancel (xor a.s0 a'.s0) d) (apart-xor_shares (apart-xor s t) r)

-- ---- complements, in share 0 only

abbrev pub not_shares : ℕ → Shares → Shares
not_shares n u = shares (complement n u.s0) u.s1

pub sharing-not_shares : {n X : ℕ} {u : Shares} → Sharing n X u → Sharing n (complement n X) (not_shares n u)
sharing-not_shares {n} {u = u} s =
    record {
      bits0 = complement-bits s.bits0;
      bits1 = s.bits1;
      joins = complement-xor n u.s0 u.s1 ∙ ap (complement n) s.joins;
    }

pub apart-not_shares : {n d X X' : ℕ} {u u' : Shares} → Apart n d X X' u u'
    → Apart n d (complement n X) (complement n X') (not_shares n u) (not_shares n u')
apart-not_shares {n} {d} {u = u} a =
    record {
      left = sharing-not_shares a.left;
      right = sharing-not_shares a.right;
      by = ap (complement n) a.by ∙ sym (complement-xor n u.s0 d);
    }

pub share-not_shares : (n : ℕ) (q : Bool) (u u' : Shares) → share q u ≡ share q u'
    → share q (not_shares n u) ≡ share q (not_shares n u')
share-not_shares n false u u' e = ap (complement n) e
share-not_shares n true u u' e = e

-- ---- a public word, added to share 0

abbrev pub xor_public : ℕ → Shares → Shares
xor_public c u = shares (xor u.s0 c) u.s1

pub sharing-xor_public : {n c X : ℕ} {u : Shares} → Bits n c → Sharing n X u → Sharing n (xor X c) (xor_public c u)
sharing-xor_public {c = c} {u = u} b s =
    record {
      bits0 = xor-bits s.bits0 b;
      bits1 = s.bits1;
      joins = xor_right_comm u.s0 c u.s1 ∙ ap (λ (t : ℕ). xor t c) s.joins;
    }

pub apart-xor_public : {n c d X X' : ℕ} {u u' : Shares} → Bits n c → Apart n d X X' u u'
    → Apart n d (xor X c) (xor X' c) (xor_public c u) (xor_public c u')
apart-xor_public {c = c} {d = d} {u = u} b a =
    record {
      left = sharing-xor_public b a.left;
      right = sharing-xor_public b a.right;
      by = ap (λ (t : ℕ). xor t c) a.by ∙ xor_right_comm u.s0 d c;
    }

pub sharing-none : {n : ℕ} → Sharing n 0 none
sharing-none = record { bits0 = zero_bits; bits1 = zero_bits; joins = xor_zero 0 }
