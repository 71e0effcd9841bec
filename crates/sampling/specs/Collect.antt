-- SampleNTT's loop: numbers are collected in 256 places, and those that find no place are dropped.
use Rattle.std.specs.Prelude.{◌≡◌, refl, List, [], ◌∷◌, ◌++◌, ℕ, ◌+◌, ◌<◌, ◌≤◌, eqb, leb, length, take, set}
use Rattle.std.proofs.Common.{sym, ap, ◌∙◌, subst, append-nil, add-one, arith, lt-ltb, le-ltb, le-leb, eq-eqb, ne_eqb}
use Rattle.std.proofs.Common.{length-set, length-take, length-append, take_all, take-suc-set}
use Rattle.std.proofs.Math.Decide.{dec_le}
use Rattle.std.proofs.lemmas.Bool.{lt-leb}
use Rattle.std.proofs.lemmas.List.{take-append-le}
use Rattle.words.specs.Residue.{q}
use Rattle.sampling.specs.Sample.{kept}

-- the first k places of f hold the first 256 numbers of l
pub record Collected (l f : List ℕ) (k : ℕ) : Type 0 where
  pub long : length f ≡ 256
  pub count : k ≡ length (take 256 l)
  pub front : take k f ≡ take 256 l

pub collected_start : {f : List ℕ} → length f ≡ 256 → Collected [] f 0
collected_start h = record { long = h; count = refl; front = refl }

pub collected_as : {l m f : List ℕ} {k : ℕ} → l ≡ m → Collected l f k → Collected m f k
collected_as {f = f} {k} e c = subst (λ (l : List ℕ). Collected l f k) e c

module _ {l f : List ℕ} {k : ℕ} (c : Collected l f k) where
  -- x is below q, and there is room
  pub collected_store : (x : ℕ) → x < q → k < length f → Collected (l ++ kept x) (set f k x) (k + 1)
  collected_store x h r =
      let short : length l < 256 = omega (arith, length-take 256 l, c.count, c.long) in
      let all = take_all 256 l (omega arith) in
      let all' = take_all 256 (l ++ x ∷ []) (omega (arith, length-append l (x ∷ []))) in
      rw (lt-ltb x q h)
      (record {
        long = length-set f k x ∙ c.long;
        count = rw all' (omega (arith, c.count, ap length all, length-append l (x ∷ [])));
        front = rw (add-one, take-suc-set f k x r) (ap (λ (m : List ℕ). m ++ x ∷ []) (c.front ∙ all) ∙ sym all');
      })

  -- there is no room
  pub collected_full : (x : ℕ) → length f ≤ k → Collected (l ++ kept x) f k
  collected_full x r =
      let e = take-append-le 256 l (kept x) (omega (arith, length-take 256 l, c.count, c.long)) in
      record { long = c.long; count = rw e c.count; front = rw e c.front }

  -- x is q or more
  pub collected_drop : (x : ℕ) → q ≤ x → Collected (l ++ kept x) f k
  collected_drop x h = rw (le-ltb x q h, append-nil l) c

  pub collected_end : 256 ≤ length l → f ≡ take 256 l
  collected_end h =
      let e : k ≡ 256 = c.count ∙ length-take 256 l ∙ omega arith in
      sym (take_all k f (omega (arith, c.long))) ∙ c.front

  -- all places are taken exactly where there are 256 numbers
  pub collected_taken : eqb k 256 ≡ leb 256 (length l)
  collected_taken = go (dec_le 256 (length l))
    where
      go : Dec (256 ≤ length l) → eqb k 256 ≡ leb 256 (length l)
      go (yes h) = rw (eq-eqb k 256 (c.count ∙ length-take 256 l ∙ omega arith), le-leb 256 (length l) h)
      go (no h) =
          rw (ne_eqb k 256 (λ e. h (omega (arith, c.count, length-take 256 l))), lt-leb 256 (length l) (omega arith))
