-- How much comparison and selection do, and what comparison joins to.
use Rattle.std.specs.Prelude.{ℕ, zero, suc, ◌+◌, ◌-◌, ◌*◌, ◌/◌, ◌^◌, ◌<◌, ◌≡◌, refl, Bool, true, false, cond, ◌&&◌, []}
use Rattle.std.specs.Prelude.{◌∷◌}
use Rattle.std.proofs.Math.Path.{sym}
use Rattle.std.proofs.Common.{ap, ap₂, ◌∙◌, subst, add-one, arith}
use Rattle.std.proofs.Math.Nat.{sub_self, sub-zero, two-pow-succ, zero-mod, zero-div}
use Rattle.std.proofs.Math.Pow.{split}
use Rattle.words.specs.Word.{xor, and, ones, complement, low}
use Rattle.words.specs.Bits.{Bits, or}
use Rattle.words.specs.WordLaws.{xor_same, and_comm, and-ones, low_bits, high_bits, low-xor, xor_shift}
use Rattle.words.specs.Formula.{boole, at, ◌⊕◌, ◌⊗◌}
use Rattle.words.specs.Table.{every}
use Rattle.worksheet.specs.Shares.{Shares}
use Rattle.worksheet.specs.Prog.{◌>>=◌, entry}
use Rattle.worksheet.specs.Uses.{Uses, ret_u, enter_u, uses_bind, uses-loop, uses-times, uses_recount}
use Rattle.worksheet.specs.Turns.{Each}
use Rattle.worksheet.specs.Gives.{Gives, ret_g, enter_g, gives_bind, gives_weaken, gives-loop, gives-times}
use Rattle.worksheet.specs.Sharing.{shares}
use Rattle.worksheet.specs.SharingLaws.{Sharing, sharing-bits, sharing-xor_public}
use Rattle.worksheet.specs.MaskedAndLaws.{uses-masked_and}
use Rattle.worksheet.specs.Gates.{masked_or}
use Rattle.worksheet.specs.EntryCounts.{or_entries}
use Rattle.worksheet.specs.GatesLaws.{uses-masked_not, uses-masked_xor, uses-masked_or}
use Rattle.worksheet.specs.GatesSharing.{sharing-masked_not, sharing-masked_or}
use Rattle.masked_comparison.specs.Comparison.{add_public, fold_or, halve, halves, all_zero}
use Rattle.masked_comparison.specs.EntryCounts.{all_zero_entries, select_entries}
use Rattle.masked_comparison.specs.Comparison.{all_zero_words, copies, select, select_words}

-- ---- how much they do

pub uses-add_public : (n : ℕ) (c : ℕ → ℕ) (w : ℕ → Shares) → Uses n 0 0 (add_public n c w)
unfolding add_public entry ◌>>=◌
uses-add_public n c w = uses_recount (omega arith) (omega arith) (omega arith) (uses-times n (λ j. enter_u ret_u))

uses-fold_or : (n : ℕ) (w : ℕ → Shares) → Uses (n * or_entries) (n * 1) (n * 0) (fold_or n w)
unfolding fold_or
uses-fold_or n w = uses-loop n (w 0) (λ j a. uses-masked_or 64 a (w (j + 1)))

uses-halves : (n : ℕ) (w : Shares) → Uses (n * or_entries) (n * 1) (n * 0) (halves n w)
unfolding halves halve
uses-halves n w = uses-loop n w (λ j a. uses-masked_or (2 ^ (n - 1 - j)) _ _)

pub uses-all_zero : (n : ℕ) (w : ℕ → Shares) → Uses (all_zero_entries n) (all_zero_words n) 0 (all_zero n w)
unfolding all_zero all_zero_entries
uses-all_zero n w =
    uses_recount (omega arith) (omega arith) (omega arith)
    (uses_bind (uses-fold_or n w) (λ f. uses_bind (uses-halves 6 f) (λ b. uses-masked_not 1 b)))

pub uses-select : (b x y : Shares) → Uses select_entries select_words 0 (select b x y)
unfolding select
uses-select b x y =
    uses_bind (uses-masked_xor x y) (λ d. uses_bind (uses-masked_and 64 (copies b) d) (λ z. uses-masked_xor y z))

-- ---- where a word is 0

abbrev pub is_zero : ℕ → Bool
is_zero zero = true
is_zero (suc n) = false

both_zero : (a b c : ℕ) → (a ≡ 0 → b ≡ 0) → (a ≡ 0 → c ≡ 0) → (b ≡ 0 → c ≡ 0 → a ≡ 0)
    → is_zero a ≡ is_zero b && is_zero c
both_zero zero zero zero f g h = refl
both_zero zero (suc b) c f g h = absurd (omega (arith, f refl))
both_zero zero zero (suc c) f g h = absurd (omega (arith, g refl))
both_zero (suc a) zero zero f g h = absurd (omega (arith, h refl refl))
both_zero (suc a) (suc b) c f g h = refl
both_zero (suc a) zero (suc c) f g h = refl

-- Or holds both of its words
and_or_left : (n x y : ℕ) → and x (and (or n x y) (ones n)) ≡ and x (ones n)
unfolding or complement
and_or_left n x y =
    boole (at 0 ⊗ (((at 0 ⊕ at 2) ⊗ (at 1 ⊕ at 2) ⊕ at 2) ⊗ at 2)) (at 0 ⊗ at 2) (x ∷ y ∷ ones n ∷ []) tt

and_or_right : (n x y : ℕ) → and y (and (or n x y) (ones n)) ≡ and y (ones n)
unfolding or complement
and_or_right n x y =
    boole (at 1 ⊗ (((at 0 ⊕ at 2) ⊗ (at 1 ⊕ at 2) ⊕ at 2) ⊗ at 2)) (at 1 ⊗ at 2) (x ∷ y ∷ ones n ∷ []) tt

or_same : (n x : ℕ) → or n x x ≡ x
unfolding or complement
or_same n x = boole ((at 0 ⊕ at 1) ⊗ (at 0 ⊕ at 1) ⊕ at 1) (at 0) (x ∷ ones n ∷ []) tt

pub and_zero : (x : ℕ) → and x 0 ≡ 0
and_zero x = rw (← xor_same x) (boole (at 0 ⊗ (at 0 ⊕ at 0)) (at 0 ⊕ at 0) (x ∷ []) tt)

is_zero-or : {n x y : ℕ} → Bits n x → Bits n y → is_zero (or n x y) ≡ is_zero x && is_zero y
is_zero-or {n} {x} {y} a b =
    both_zero (or n x y) x y
    (λ e. sym (and-ones a) ∙ sym (and_or_left n x y) ∙ none x e)
    (λ e. sym (and-ones b) ∙ sym (and_or_right n x y) ∙ none y e)
    (λ e f. rw (e, f) (or_same n 0))
  where
    none : (z : ℕ) → or n x y ≡ 0 → and z (and (or n x y) (ones n)) ≡ 0
    none z e = rw (e, and_comm 0 (ones n), and_zero (ones n)) (and_zero z)

-- ---- the halves of a word of h + h bits

module _ (h : ℕ) where
  abbrev pub low_half : Shares → Shares
  low_half z = shares (low h z.s0) (low h z.s1)

  abbrev pub high_half : Shares → Shares
  high_half z = shares (z.s0 / 2 ^ h) (z.s1 / 2 ^ h)

  pub sharing-low_half : {X : ℕ} {z : Shares} → Sharing (h + h) X z → Sharing h (low h X) (low_half z)
  sharing-low_half {z = z} s =
      record {
        bits0 = low_bits z.s0;
        bits1 = low_bits z.s1;
        joins = sym (low-xor h z.s0 z.s1) ∙ ap (low h) s.joins;
      }

  pub sharing-high_half : {X : ℕ} {z : Shares} → Sharing (h + h) X z → Sharing h (X / 2 ^ h) (high_half z)
  sharing-high_half {z = z} s =
      record {
        bits0 = high_bits h s.bits0;
        bits1 = high_bits h s.bits1;
        joins = sym (xor_shift h z.s0 z.s1) ∙ ap (λ (t : ℕ). t / 2 ^ h) s.joins;
      }

  is_zero_split : (x : ℕ) → is_zero x ≡ is_zero (low h x) && is_zero (x / 2 ^ h)
  unfolding low
  is_zero_split x =
      both_zero x (low h x) (x / 2 ^ h) (λ e. rw e (zero-mod (2 ^ h))) (λ e. rw e (zero-div (2 ^ h)))
      (λ e f. sym (split x h) ∙ rw (f, e) (omega arith))

-- ---- what they join to

pub gives-add_public : (n : ℕ) (c X : ℕ → ℕ) (w : ℕ → Shares) → ((j : ℕ) → j < n → Bits 64 (c j))
    → ((j : ℕ) → j < n → Sharing 64 (X j) (w j))
    → Gives (Each (λ j. Sharing 64 (xor (X j) (c j))) n) (add_public n c w)
unfolding add_public entry ◌>>=◌
gives-add_public n c X w b s = gives-times _ n (λ j h. enter_g (ret_g (sharing-xor_public (b j h) (s j h))))

-- a sharing of a word of n bits that is 0 exactly where b says so
pub record ZeroWhere (n : ℕ) (b : Bool) (z : Shares) : Type 0 where
  pub word : ℕ
  pub sharing : Sharing n word z
  pub zeros : is_zero word ≡ b

zero_where_masked_or : {n : ℕ} {a b : Bool} {u v : Shares} → ZeroWhere n a u → ZeroWhere n b v
    → Gives (ZeroWhere n (a && b)) (masked_or n u v)
zero_where_masked_or s t =
    gives_weaken
    (λ z o.
    record {
      word = or _ s.word t.word;
      sharing = o;
      zeros = is_zero-or (sharing-bits s.sharing) (sharing-bits t.sharing) ∙ ap₂ ◌&&◌ s.zeros t.zeros;
    })
    (sharing-masked_or s.sharing t.sharing)

module _ (n : ℕ) (b : ℕ → Bool) (w : ℕ → Shares) (s : (j : ℕ) → j < suc n → ZeroWhere 64 (b j) (w j)) where
  gives-fold_or : Gives (ZeroWhere 64 (every (suc n) b)) (fold_or n w)
  unfolding fold_or
  gives-fold_or =
      gives-loop (λ j. ZeroWhere 64 (every (suc j) b)) n
      (λ j h a r. rw (add-one j) (zero_where_masked_or r (s (suc j) (omega arith)))) (s 0 (omega arith))

gives-halve : {b : Bool} {z : Shares} (h : ℕ) → ZeroWhere (h + h) b z → Gives (ZeroWhere h b) (halve h z)
unfolding halve
gives-halve {b} {z} h s =
    subst (λ (c : Bool). Gives (ZeroWhere h c) (halve h z)) (sym (is_zero_split h s.word) ∙ s.zeros)
    (zero_where_masked_or (record { word = low h s.word; sharing = sharing-low_half h s.sharing; zeros = refl })
    (record { word = s.word / 2 ^ h; sharing = sharing-high_half h s.sharing; zeros = refl }))

gives-halves : {b : Bool} {z : Shares} (n : ℕ) → ZeroWhere (2 ^ n) b z → Gives (ZeroWhere 1 b) (halves n z)
unfolding halves
gives-halves {b} {z} n s =
    gives_weaken (λ o r. subst (λ (k : ℕ). ZeroWhere (2 ^ k) b o) (sub_self n) r)
    (gives-loop (λ j. ZeroWhere (2 ^ (n - j)) b) n (λ j h o r. turn j h r)
    (subst (λ (k : ℕ). ZeroWhere (2 ^ k) b z) (sym (sub-zero n)) s))
  where
    turn : (j : ℕ) → j < n → {o : Shares} → ZeroWhere (2 ^ (n - j)) b o
        → Gives (ZeroWhere (2 ^ (n - suc j)) b) (halve (2 ^ (n - 1 - j)) o)
    turn j h {o} r =
        let k = n - 1 - j in
        let e : n - j ≡ suc k = omega arith in
        let f : n - suc j ≡ k = omega arith in
        rw f (gives-halve (2 ^ k) (subst (λ (m : ℕ). ZeroWhere m b o) (ap (λ (m : ℕ). 2 ^ m) e ∙ two-pow-succ k) r))

-- a single bit, inverted
complement_bit : (x : ℕ) → Bits 1 x → complement 1 x ≡ cond (is_zero x) 1 0
unfolding complement ones xor
complement_bit zero a = refl
complement_bit (suc zero) a = refl
complement_bit (suc (suc x)) a = absurd (omega (arith, a.lt))

-- 1 where all n + 1 words are 0, else 0
pub gives-all_zero : (n : ℕ) (X : ℕ → ℕ) (w : ℕ → Shares) → ((j : ℕ) → j < suc n → Sharing 64 (X j) (w j))
    → Gives (Sharing 1 (cond (every (suc n) (λ j. is_zero (X j))) 1 0)) (all_zero n w)
unfolding all_zero
gives-all_zero n X w s =
    gives_bind
    (gives-fold_or n (λ j. is_zero (X j)) w (λ j h. record { word = X j; sharing = s j h; zeros = refl })) (λ f p.
    gives_bind (gives-halves 6 p) (λ b r.
    gives_weaken
    (λ z o. rw (complement_bit r.word (sharing-bits r.sharing), r.zeros) at o)
    (sharing-masked_not r.sharing)))
