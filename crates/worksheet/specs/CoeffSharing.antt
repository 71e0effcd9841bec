-- Coefficients modulo m in two shares, and pairs of such sharings that are compared.
use Rattle.std.specs.Prelude.{ℕ, ◌+◌, ◌-◌, ◌%◌, ◌<◌, ◌≡◌, Bool, true, false}
use Rattle.std.proofs.Common.{sym, ap, ap₂, ◌∙◌, subst, mod-lt, mod-eq_of_lt, add-zero, arith}
use Rattle.std.proofs.Math.Nat.{mod-add-mod, add-mod-mod, add-mod_right}
use Rattle.words.specs.ResidueLaws.{add_swap_mod, add_mod_cancel}
use Rattle.worksheet.specs.Shares.{Shares}
use Rattle.worksheet.specs.Sharing.{shares}
use Rattle.worksheet.specs.SharingLaws.{share}

-- z is a sharing of X
pub record CoeffSharing (m X : ℕ) (z : Shares) : Type 0 where
  pub lt0 : z.s0 < m
  pub lt1 : z.s1 < m
  pub sums : (z.s0 + z.s1) % m ≡ X

-- sharings of X and of X' whose shares 0 differ by d
pub record CoeffApart (m d X X' : ℕ) (z z' : Shares) : Type 0 where
  pub left : CoeffSharing m X z
  pub right : CoeffSharing m X' z'
  pub by : z'.s0 ≡ (z.s0 + d) % m

-- the difference of shares 0 at which share c is equal
abbrev pub coeff_keep : ℕ → Bool → ℕ → ℕ → ℕ
coeff_keep m false X X' = 0
coeff_keep m true X X' = (X' + (m - X)) % m

coeff_sharing_lt : {m X : ℕ} {z : Shares} → CoeffSharing m X z → X < m
coeff_sharing_lt {m} {z = z} s = subst (λ (x : ℕ). x < m) s.sums (mod-lt (z.s0 + z.s1) (omega (arith, s.lt0)))

pub coeff_apart_cong : {m d e X X' : ℕ} {z z' : Shares} → d ≡ e → CoeffApart m d X X' z z' → CoeffApart m e X X' z z'
coeff_apart_cong e a = rw e at a

-- ---- one share kept equal

add_add_mod : (a d b m : ℕ) → ((a + d) % m + b) % m ≡ ((a + b) % m + d) % m
add_add_mod a d b m = mod-add-mod (a + d) m b ∙ ap (λ (t : ℕ). t % m) (omega arith) ∙ sym (mod-add-mod (a + b) m d)

add_coeff_keep : {m X X' : ℕ} → X < m → X' < m → (X + coeff_keep m true X X') % m ≡ X'
add_coeff_keep {m} {X} {X'} h g =
    add-mod-mod X (X' + (m - X)) m ∙ ap (λ (t : ℕ). t % m) (omega arith) ∙ add-mod_right X' m ∙ mod-eq_of_lt g

pub share-coeff_keep : (c : Bool) {m X X' : ℕ} {z z' : Shares} → CoeffApart m (coeff_keep m c X X') X X' z z'
    → share c z ≡ share c z'
share-coeff_keep false {m = m} {z = z} a =
    sym (a.by ∙ ap (λ (t : ℕ). t % m) (add-zero z.s0) ∙ mod-eq_of_lt a.left.lt0)
share-coeff_keep true {m = m} {X = X} {X' = X'} {z = z} {z' = z'} a =
    add_mod_cancel z'.s0 z.s1 z'.s1 m (omega (arith, a.right.lt0)) a.left.lt1 a.right.lt1
    (ap (λ (t : ℕ). (t + z.s1) % m) a.by
    ∙ add_add_mod z.s0 (coeff_keep m true X X') z.s1 m
    ∙ ap (λ (t : ℕ). (t + coeff_keep m true X X') % m) a.left.sums
    ∙ add_coeff_keep (coeff_sharing_lt a.left) (coeff_sharing_lt a.right)
    ∙ sym a.right.sums)

pub coeff_keep_lt : {m : ℕ} (c : Bool) (X X' : ℕ) → 0 < m → coeff_keep m c X X' < m
coeff_keep_lt false X X' h = h
coeff_keep_lt {m} true X X' h = mod-lt (X' + (m - X)) h

-- ---- sums, share by share

abbrev pub add_shares : ℕ → Shares → Shares → Shares
add_shares m a b = shares ((a.s0 + b.s0) % m) ((a.s1 + b.s1) % m)

pub coeff_sharing_add_shares : {m X Y : ℕ} {a b : Shares} → CoeffSharing m X a → CoeffSharing m Y b
    → CoeffSharing m ((X + Y) % m) (add_shares m a b)
coeff_sharing_add_shares {m} {a = a} {b = b} s t =
    let h : 0 < m = omega (arith, s.lt0) in
    record {
      lt0 = mod-lt _ h;
      lt1 = mod-lt _ h;
      sums =
          add_swap_mod a.s0 b.s0 a.s1 b.s1 m ∙ ap₂ (λ (x y : ℕ). (x + y) % m) s.sums t.sums;
    }

pub coeff_apart_add_shares : {m d e X Y X' Y' : ℕ} {a b a' b' : Shares} → CoeffApart m d X X' a a'
    → CoeffApart m e Y Y' b b'
    → CoeffApart m ((d + e) % m) ((X + Y) % m) ((X' + Y') % m) (add_shares m a b) (add_shares m a' b')
coeff_apart_add_shares {m} {d} {e} {a = a} {b = b} s t =
    record {
      left = coeff_sharing_add_shares s.left t.left;
      right = coeff_sharing_add_shares s.right t.right;
      by = ap₂ (λ (x y : ℕ). (x + y) % m) s.by t.by ∙ add_swap_mod a.s0 d b.s0 e m;
    }
