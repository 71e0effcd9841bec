-- Algorithm 7's loop and the definition by 280 groups: on a stream that begins with 840 bytes the loop ends within them
-- exactly where they yield 256 coefficients, and returns what the definition says, whatever follows them.
use Rattle.std.specs.Prelude.{◌≡◌, Bool, true, false, cond, ◌&&◌, List, [], ◌∷◌, ◌++◌, ltb}
use Rattle.std.proofs.Math.Path.{refl, sym, ap}
use Rattle.std.proofs.Common.{◌∙◌, append-nil, append_assoc, add-zero, add-suc, arith, lt-ltb, le-ltb, le-leb, leb-true}
use Rattle.std.proofs.Common.{length-append, take_all}
use Prim.Native.Nat.{ℕ, zero, suc, ◌+◌, ◌-◌, ◌*◌, ◌<◌, ◌≤◌}
use Rattle.std.proofs.Math.Decide.{dec_lt, dec_le}
use Rattle.std.proofs.Math.ListN.{length, take, length-take, get_or-append}
use Rattle.std.proofs.lemmas.List.{take-append-le}
use Rattle.words.specs.Residue.{q}
use Rattle.sampling.specs.Sample.{d₁, d₂, kept, accepted, sample_ntt, full}
use Rattle.sampling.specs.SampleLoop.{turn, Returns, stop, again, ReturnsWithin}

-- ---- one turn

one_kept : (x : ℕ) → length (kept x) ≤ 1
one_kept x = go (ltb x q)
  where
    go : (b : Bool) → length (cond b (x ∷ []) []) ≤ 1
    go true = omega arith
    go false = omega arith

-- with room for d₁, what finds a place is the first 256
turned : (l : List ℕ) (x y : ℕ) → length l < 256
    → cond (ltb y q && ltb (length (l ++ kept x)) 256) ((l ++ kept x) ++ y ∷ []) (l ++ kept x)
    ≡ take 256 ((l ++ kept x) ++ kept y)
turned l x y h = go (dec_lt y q) (dec_lt (length m) 256)
  where
    m : List ℕ
    m = l ++ kept x

    short : length m ≤ 256
    short = omega (arith, length-append l (kept x), one_kept x)

    go : Dec (y < q) → Dec (length m < 256)
        → cond (ltb y q && ltb (length m) 256) (m ++ y ∷ []) m ≡ take 256 (m ++ kept y)
    go (yes a) (yes b) =
        rw (lt-ltb y q a, lt-ltb (length m) 256 b)
        (sym (take_all 256 (m ++ y ∷ []) (omega (arith, length-append m (y ∷ [])))))
    go (yes a) (no b) =
        rw (lt-ltb y q a, le-ltb (length m) 256 (omega arith))
        (sym (take-append-le 256 m (y ∷ []) (omega arith) ∙ take_all 256 m short))
    go (no a) b = rw (le-ltb y q (omega arith), append-nil m) (sym (take_all 256 m short))

-- ---- the loop

module _ (s : List ℕ) where
  -- the first 256 numbers that n groups yield
  abbrev front : ℕ → List ℕ
  front n = take 256 (accepted n s)

  turn-front : (i : ℕ) → length (front i) < 256 → turn s i (front i) ≡ front (suc i)
  unfolding turn accepted
  turn-front i h =
      let l = accepted i s in
      let k : length l < 256 = omega (arith, length-take 256 l) in
      ap (turn s i) (take_all 256 l (omega arith))
      ∙ turned l (d₁ s i) (d₂ s i) k
      ∙ ap (take 256) (append_assoc l (kept (d₁ s i)) (kept (d₂ s i)))

  -- where there are 256, further groups add none
  front_stays : (i k : ℕ) → 256 ≤ length (accepted i s) → front (i + k) ≡ front i
  unfolding accepted
  front_stays i zero h = rw (add-zero i)
  front_stays i (suc k) h =
      let l = accepted (i + k) s in
      let e = front_stays i k h in
      rw (add-suc i k)
      (take-append-le 256 l (kept (d₁ s (i + k)) ++ kept (d₂ s (i + k)))
      (omega (arith, ap length e, length-take 256 l, length-take 256 (accepted i s)))
      ∙ e)

  record EndsFrom (i n : ℕ) : Type 0 where
    groups : ℕ
    few : groups ≤ n
    returns : Returns s i (front i) groups (front n)

  ends_now : (i : ℕ) → 256 ≤ length (accepted i s) → EndsFrom i i
  ends_now i h =
      let f : 256 ≤ length (front i) = omega (arith, length-take 256 (accepted i s)) in
      record { groups = i; few = omega arith; returns = stop f }

  ends_from : (k i : ℕ) → 256 ≤ length (accepted (i + k) s) → EndsFrom i (i + k)
  ends_from zero i h = rw (add-zero i) (ends_now i (rw (add-zero i) at h))
  ends_from (suc k) i h =
      let e : i + suc k ≡ suc i + k = omega arith in
      go (dec_le 256 (length (accepted i s))) (rw e (ends_from k (suc i) (rw e at h)))
    where
      go : Dec (256 ≤ length (accepted i s)) → EndsFrom (suc i) (i + suc k) → EndsFrom i (i + suc k)
      go (yes l) r =
          let x = ends_now i l in
          let e = front_stays i (suc k) l in
          record { groups = x.groups; few = omega (arith, x.few); returns = rw e x.returns }
      go (no l) r =
          let f : length (front i) < 256 = omega (arith, length-take 256 (accepted i s)) in
          record { groups = r.groups; few = r.few; returns = again f (rw (← turn-front i f) at r.returns) }

  -- what has been returned
  record Reached (n : ℕ) (r : List ℕ) : Type 0 where
    long : 256 ≤ length r
    value : r ≡ front n

  reached : {i n : ℕ} {a r : List ℕ} → Returns s i a n r → a ≡ front i → Reached n r
  reached (stop h) e = record { long = h; value = e }
  reached (again {i = i} h x) e = reached x (ap (turn s i) e ∙ turn-front i (rw e at h))

  front_zero : front 0 ≡ []
  unfolding accepted
  front_zero = refl

-- ---- a stream that begins with s

-- the first n groups are read in s
accepted_longer : (n : ℕ) (s t : List ℕ) → 3 * n ≤ length s → accepted n (s ++ t) ≡ accepted n s
unfolding accepted
accepted_longer zero s t h = refl
accepted_longer (suc n) s t h =
    rw (
      accepted_longer n s t (omega arith),
      get_or-append s t 0 (3 * n) (omega arith),
      get_or-append s t 0 (3 * n + 1) (omega arith),
      get_or-append s t 0 (3 * n + 2) (omega arith),
    )

module _ (s t : List ℕ) (e : length s ≡ 840) where
  pub full_returns : full s ≡ true → ReturnsWithin 280 (s ++ t) (sample_ntt s)
  unfolding sample_ntt
  full_returns h =
      let l = accepted_longer 280 s t (omega arith) in
      let r = ends_from (s ++ t) 280 0 (rw l (leb-true 256 (length (accepted 280 s)) h)) in
      record { groups = r.groups; few = r.few; returns = rw (l, front_zero (s ++ t)) at r.returns }

  pub returns_full : {r : List ℕ} → ReturnsWithin 280 (s ++ t) r → (full s ≡ true) × (r ≡ sample_ntt s)
  unfolding sample_ntt
  returns_full {r} w =
      let u = s ++ t in
      let n = w.groups in
      let x = reached u w.returns (sym (front_zero u)) in
      let enough : 256 ≤ length (accepted n u) =
      omega (arith, x.long, ap length x.value, length-take 256 (accepted n u)) in
      let g : n + (280 - n) ≡ 280 = omega (arith, w.few) in
      let f : take 256 (accepted 280 u) ≡ take 256 (accepted n u) = rw g at (front_stays u n (280 - n) enough) in
      let value : r ≡ take 256 (accepted 280 s) =
      x.value ∙ sym f ∙ ap (take 256) (accepted_longer 280 s t (omega arith)) in
      let long = length-take 256 (accepted 280 s) in
      (le-leb 256 (length (accepted 280 s)) (omega (arith, x.long, ap length value, long)), value)
