-- Lists put one behind the other, described element by element: of one run, and of two runs beside each other.
use Prim.Native.Nat.{ℕ, zero, suc, ◌+◌, ◌-◌, ◌*◌, ◌<◌}
use Rattle.std.specs.Prelude.{◌≡◌, refl, length, get_or}
use Rattle.std.proofs.Common.{ap, ◌∙◌, zero-add, zero-mul, suc-mul, arith, length-append, get_or-append-add}
use mathlib.Core.List.{List, [], ◌∷◌, ◌++◌, flatten}
use Rattle.std.proofs.Math.Decide.{dec_lt}
use Rattle.std.proofs.Math.Nat.{add_comm}
use Rattle.std.proofs.Math.ListN.{get_or-append}
use Rattle.worksheet.specs.Turns.{Each, Turns}

-- element j of two lists, from the m elements of the first on
get_or_behind : {A : Type 0} (xs ys : List A) (d : A) {m : ℕ} (j : ℕ) → length xs ≡ m → (j < m → ⊥)
    → get_or (xs ++ ys) j d ≡ get_or ys (j - m) d
get_or_behind xs ys d {m} j e h =
    let n : j ≡ length xs + (j - m) = omega arith in
    ap (λ (k : ℕ). get_or (xs ++ ys) k d) n ∙ get_or-append-add xs ys (j - m) d

-- ---- of one run

module _ {A : Type 0} where
  pub each_append : {Q : ℕ → A → Type 0} {m n : ℕ} {xs ys : List A} → Each Q m xs → Each (λ j. Q (m + j)) n ys
      → Each Q (m + n) (xs ++ ys)
  each_append {Q} {m} {n} {xs} {ys} r s =
      record { long = length-append xs ys ∙ omega (arith, r.long, s.long); at = λ d j h. go d j h (dec_lt j m) }
    where
      go : (d : A) (j : ℕ) → j < m + n → Dec (j < m) → Q j (get_or (xs ++ ys) j d)
      go d j h (yes p) = rw (get_or-append xs ys d j (omega (arith, r.long))) (r.at d j p)
      go d j h (no p) =
          let e : m + (j - m) ≡ j = omega arith in
          rw (get_or_behind xs ys d j r.long p) (rw e at (s.at d (j - m) (omega arith)))

-- ---- of two runs

turns_tail : {A B : Type 0} {R : ℕ → A → B → Type 0} {n : ℕ} {x : A} {x' : B} {xs : List A} {xs' : List B}
    → Turns R (suc n) (x ∷ xs) (x' ∷ xs') → Turns (λ j. R (suc j)) n xs xs'
turns_tail r =
    record {
      long = omega (arith, r.long);
      long' = omega (arith, r.long');
      at = λ d d' j h. r.at d d' (suc j) (omega arith);
    }

module _ {A B : Type 0} where
  pub turns_append : {R : ℕ → A → B → Type 0} {m n : ℕ} {xs ys : List A} {xs' ys' : List B} → Turns R m xs xs'
      → Turns (λ j. R (m + j)) n ys ys' → Turns R (m + n) (xs ++ ys) (xs' ++ ys')
  turns_append {R} {m} {n} {xs} {ys} {xs'} {ys'} r s =
      record {
        long = length-append xs ys ∙ omega (arith, r.long, s.long);
        long' = length-append xs' ys' ∙ omega (arith, r.long', s.long');
        at = λ d d' j h. go d d' j h (dec_lt j m);
      }
    where
      go : (d : A) (d' : B) (j : ℕ) → j < m + n → Dec (j < m) → R j (get_or (xs ++ ys) j d) (get_or (xs' ++ ys') j d')
      go d d' j h (yes p) =
          rw
          (get_or-append xs ys d j (omega (arith, r.long)), get_or-append xs' ys' d' j (omega (arith, r.long')))
          (r.at d d' j p)
      go d d' j h (no p) =
          let e : m + (j - m) ≡ j = omega arith in
          rw (get_or_behind xs ys d j r.long p, get_or_behind xs' ys' d' j r.long' p)
          (rw e at (s.at d d' (j - m) (omega arith)))

  pub turns-flatten : {R : ℕ → A → B → Type 0} (n d : ℕ) {l : List (List A)} {l' : List (List B)}
      → Turns (λ i. Turns (λ j. R (i * d + j)) d) n l l' → Turns R (n * d) (flatten l) (flatten l')
  unfolding flatten
  turns-flatten zero d {l = []} {l' = []} r =
      rw (zero-mul d) (record { long = refl; long' = refl; at = λ x x' j h. absurd (omega arith) })
  turns-flatten zero d {l = []} {l' = x ∷ l'} r = absurd (omega (arith, r.long'))
  turns-flatten zero d {l = x ∷ l} r = absurd (omega (arith, r.long))
  turns-flatten (suc n) d {l = []} r = absurd (omega (arith, r.long))
  turns-flatten (suc n) d {l = x ∷ l} {l' = []} r = absurd (omega (arith, r.long'))
  turns-flatten {R} (suc n) d {l = x ∷ l} {l' = x' ∷ l'} r =
      rw (suc-mul n d ∙ add_comm (n * d) d)
      (turns_append (shift (r.at x x' 0 (omega arith))) (turns-flatten {R = λ k. R (d + k)} n d (next (turns_tail r))))
    where
      shift : Turns (λ j. R (0 * d + j)) d x x' → Turns R d x x'
      shift s = simp (zero-mul, zero-add) at s

      next : Turns (λ i. Turns (λ j. R (suc i * d + j)) d) n l l'
          → Turns (λ i. Turns (λ j. R (d + (i * d + j))) d) n l l'
      next s =
          record {
            long = s.long;
            long' = s.long';
            at = λ y y' i h.
                let t = s.at y y' i h in
                record {
                  long = t.long;
                  long' = t.long';
                  at = λ z z' j g.
                      let e : suc i * d + j ≡ d + (i * d + j) = omega (arith, suc-mul i d) in
                      rw e at (t.at z z' j g);
                };
          }
