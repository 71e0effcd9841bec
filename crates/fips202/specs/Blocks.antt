-- The blocks of a padded message: those of the message, and its rest with the padding.
use Rattle.std.specs.Prelude.{◌≡◌, refl, ℕ, zero, suc, ◌+◌, ◌-◌, ◌*◌, ◌%◌, ◌<◌, ◌≤◌, take, drop, replicate}
use Rattle.std.proofs.Math.Path.{sym, ap}
use Rattle.std.proofs.Common.{◌∙◌, suc-mul, mul-le-mul_right, add-one, length-append, length-drop, take_all}
use mathlib.Core.List.{List, [], ◌∷◌, ◌++◌}
use Rattle.std.proofs.Math.Nat.{mul-div_cancel}
use native.Mathlib.Omega.{arith}
use Rattle.std.proofs.Math.Arith.{digits_mod}
use Rattle.std.proofs.Math.ListN.{length}
use Rattle.std.proofs.lemmas.List.{length-replicate, drop-append-le}
use Rattle.words.specs.Bounded.{Below}
use Rattle.words.specs.BoundedLaws.{below_nil, below_cons, below_append, below_zeros}
use Rattle.words.specs.Iterate.{iterate}
use Rattle.words.specs.IterateLaws.{iterate_cong}
use Rattle.words.specs.Part.{part_append}
use Rattle.keccak.specs.KeccakP.{keccak_p}
use Rattle.fips202.specs.Sponge.{padding, padded, mixed, absorbed}

length-padding : (suffix z : ℕ) → length (padding suffix z) ≡ suc z
length-padding suffix zero = refl
length-padding suffix (suc z) =
    ap suc (length-append (replicate z 0) (0x80 ∷ []) ∙ rw (length-replicate {A = ℕ} z 0) (add-one z))

below-padding : {suffix : ℕ} → suffix < 128 → (z : ℕ) → Below 256 (padding suffix z)
below-padding h zero = below_cons (omega arith) (below_nil (omega arith))
below-padding h (suc z) =
    below_cons (omega arith)
    (below_append (replicate z 0) (below_zeros z (omega arith)) (below_cons (omega arith) (below_nil (omega arith))))

-- a padded message is a string of bytes
pub below-padded : {suffix : ℕ} {m : List ℕ} (rate : ℕ) → suffix < 128 → Below 256 m → Below 256 (padded rate suffix m)
unfolding padded
below-padded {m = m} rate h b = below_append m b (below-padding h (rate - 1 - length m % rate))

-- the state with block i of m taken in
abbrev pub taken : ℕ → List ℕ → ℕ → List ℕ → List ℕ
taken rate m i s = keccak_p (mixed (take rate (drop (i * rate) m)) s)

-- m has q whole blocks and a rest
module _ (rate suffix : ℕ) (m : List ℕ) (q : ℕ) (h : q * rate ≤ length m) (g : length m < q * rate + rate) where
  abbrev rest : List ℕ
  rest = drop (q * rate) m

  abbrev pad : List ℕ
  pad = padding suffix (rate - 1 - length rest)

  length_rest : q * rate + length rest ≡ length m
  length_rest = omega (arith, length-drop (q * rate) m)

  padded_is : padded rate suffix m ≡ m ++ pad
  unfolding padded
  padded_is =
      let e : length m ≡ q * rate + length rest = sym length_rest in
      let l : length rest < rate = omega arith in
      ap (λ (r : ℕ). m ++ padding suffix (rate - 1 - r)) (ap (λ (n : ℕ). n % rate) e ∙ digits_mod q l)

  pub length-padded : length (padded rate suffix m) ≡ suc q * rate
  length-padded =
      rw (padded_is, length-append m pad, length-padding suffix (rate - 1 - length rest), suc-mul q rate)
      (omega (arith, length_rest))

  pub block_padded : (i : ℕ) → i < q
      → take rate (drop (i * rate) (padded rate suffix m)) ≡ take rate (drop (i * rate) m)
  block_padded i l =
      let e : suc i * rate ≤ q * rate = mul-le-mul_right {m = suc i} {n = q} rate l in
      rw padded_is (part_append (i * rate) rate m pad (omega (arith, suc-mul i rate)))

  pub last_padded : take rate (drop (q * rate) (padded rate suffix m)) ≡ rest ++ pad
  last_padded =
      rw (padded_is, drop-append-le (q * rate) m pad h)
      (take_all rate (rest ++ pad)
      (rw (length-append rest pad, length-padding suffix (rate - 1 - length rest)) (omega (arith, length_rest))))

  pub absorbed-padded : absorbed rate (padded rate suffix m)
      ≡ keccak_p (mixed (rest ++ pad) (iterate q (taken rate m) (replicate 25 0)))
  unfolding absorbed iterate
  absorbed-padded =
      rw (length-padded, mul-div_cancel (suc q) {n = rate} (omega arith), last_padded)
      (ap (λ (s : List ℕ). keccak_p (mixed (rest ++ pad) s))
      (iterate_cong q (replicate 25 0) (λ i l s. rw (block_padded i l))))
