-- The results of n turns, described turn by turn: of one loop, and of two loops beside each other.
use Rattle.std.specs.Prelude.{ℕ, suc, ◌+◌, ◌<◌, ◌≡◌, refl, List, [], ◌∷◌, ◌++◌, length, get_or, drop}
use Rattle.std.proofs.Common.{◌∙◌, arith, length-append, length-drop, get_or-drop}
use Rattle.std.proofs.Math.Decide.{dec_lt}
use Rattle.std.proofs.Math.ListN.{get_or-append}
use Rattle.std.proofs.lemmas.List.{get_or_at}

-- Q j holds of element j, and there are n
pub record Each {A : Type 0} (Q : ℕ → A → Type 0) (n : ℕ) (ys : List A) : Type 0 where
  pub long : length ys ≡ n
  pub at : (d : A) (j : ℕ) → j < n → Q j (get_or ys j d)

pub each_nil : {A : Type 0} {Q : ℕ → A → Type 0} → Each Q 0 []
each_nil = record { long = refl; at = λ d j h. absurd (omega arith) }

length_snoc : {A : Type 0} {n : ℕ} (ys : List A) (y : A) → length ys ≡ n → length (ys ++ y ∷ []) ≡ suc n
length_snoc ys y e = length-append ys (y ∷ []) ∙ omega arith

pub each_snoc : {A : Type 0} {Q : ℕ → A → Type 0} {n : ℕ} {ys : List A} {y : A}
    → Each Q n ys → Q n y → Each Q (suc n) (ys ++ y ∷ [])
each_snoc {A} {Q} {n} {ys} {y} r q = record { long = length_snoc ys y r.long; at = λ d j h. go d j h (dec_lt j n) }
  where
    go : (d : A) (j : ℕ) → j < suc n → Dec (j < n) → Q j (get_or (ys ++ y ∷ []) j d)
    go d j h (yes p) = rw (get_or-append ys (y ∷ []) d j (omega arith)) (r.at d j p)
    go d j h (no p) = let e : j ≡ n = omega arith in rw (e, get_or_at ys y [] d n r.long) q

pub each_weaken : {A : Type 0} {Q R : ℕ → A → Type 0} {n : ℕ} {ys : List A} → ((j : ℕ) (y : A) → Q j y → R j y)
    → Each Q n ys → Each R n ys
each_weaken {ys = ys} h r = record { long = r.long; at = λ d j lt. h j (get_or ys j d) (r.at d j lt) }

-- the elements from k on
pub each-drop : {A : Type 0} {Q R : ℕ → A → Type 0} {m n : ℕ} (k : ℕ) {ys : List A} → Each Q m ys → m ≡ k + n
    → ((j : ℕ) (y : A) → j < n → Q (k + j) y → R j y) → Each R n (drop k ys)
each-drop {m = m} {n = n} k {ys} r e h =
    record {
      long = length-drop k ys ∙ omega (arith, r.long);
      at = λ d j lt. rw (get_or-drop k ys j d) (h j (get_or ys (k + j) d) lt (r.at d (k + j) (omega arith)));
    }

-- the elements j of two lists of n are related by R j
pub record Turns {A B : Type 0} (R : ℕ → A → B → Type 0) (n : ℕ) (ys : List A) (ys' : List B) : Type 0 where
  pub long : length ys ≡ n
  pub long' : length ys' ≡ n
  pub at : (d : A) (d' : B) (j : ℕ) → j < n → R j (get_or ys j d) (get_or ys' j d')

pub turns_nil : {A B : Type 0} {R : ℕ → A → B → Type 0} → Turns R 0 [] []
turns_nil = record { long = refl; long' = refl; at = λ d d' j h. absurd (omega arith) }

pub turns_snoc : {A B : Type 0} {R : ℕ → A → B → Type 0} {n : ℕ} {ys : List A} {ys' : List B} {y : A} {y' : B}
    → Turns R n ys ys' → R n y y' → Turns R (suc n) (ys ++ y ∷ []) (ys' ++ y' ∷ [])
turns_snoc {A} {B} {R} {n} {ys} {ys'} {y} {y'} r q =
    record {
      long = length_snoc ys y r.long;
      long' = length_snoc ys' y' r.long';
      at = λ d d' j h. go d d' j h (dec_lt j n);
    }
  where
    go : (d : A) (d' : B) (j : ℕ) → j < suc n → Dec (j < n)
        → R j (get_or (ys ++ y ∷ []) j d) (get_or (ys' ++ y' ∷ []) j d')
    go d d' j h (yes p) =
        rw (get_or-append ys (y ∷ []) d j (omega arith), get_or-append ys' (y' ∷ []) d' j (omega arith))
        (r.at d d' j p)
    go d d' j h (no p) =
        let e : j ≡ n = omega arith in
        rw (e, get_or_at ys y [] d n r.long, get_or_at ys' y' [] d' n r.long') q

pub turns_weaken : {A B : Type 0} {R S : ℕ → A → B → Type 0} {n : ℕ} {ys : List A} {ys' : List B}
    → ((j : ℕ) → j < n → (y : A) (y' : B) → R j y y' → S j y y') → Turns R n ys ys' → Turns S n ys ys'
turns_weaken {ys = ys} {ys' = ys'} h r =
    record {
      long = r.long;
      long' = r.long';
      at = λ d d' j lt. h j lt (get_or ys j d) (get_or ys' j d') (r.at d d' j lt);
    }

pub turns-drop : {A B : Type 0} {R : ℕ → A → B → Type 0} (k : ℕ) {n : ℕ} {ys : List A} {ys' : List B}
    → Turns R (n + k) ys ys' → Turns (λ j. R (k + j)) n (drop k ys) (drop k ys')
turns-drop k {n} {ys} {ys'} r =
    record {
      long = length-drop k ys ∙ omega (arith, r.long);
      long' = length-drop k ys' ∙ omega (arith, r.long');
      at = λ d d' j h. rw (get_or-drop k ys j d, get_or-drop k ys' j d') (r.at d d' (k + j) (omega arith));
    }
