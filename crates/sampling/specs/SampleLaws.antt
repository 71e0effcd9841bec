-- Sampling: how far SampleNTT has come after each group, and SamplePolyCBD made of decoded numbers one by one.
use Rattle.std.specs.Prelude.{◌≡◌, refl, Bool, true, false, Err, ℕ, ◌+◌, ◌*◌, ◌/◌, ◌%◌, ◌^◌, ◌<◌, ◌≤◌, length, drop}
use Rattle.std.proofs.Math.Path.{sym, ap, ap₂}
use Rattle.std.proofs.Common.{◌∙◌, mod-lt, add-one, length-take, length-drop, length-append, take-add, drop-drop}
use mathlib.Core.List.{List, ◌++◌, append_assoc, map}
use Rattle.std.proofs.Math.Nat.{mul-le-mul_right}
use native.Mathlib.Omega.{arith}
use Rattle.std.proofs.Math.ListN.{take, get_or-map}
use Rattle.std.proofs.lemmas.List.{length-map}
use Rattle.std.proofs.Math.Seq.{take_at, drop_at}
use Rattle.words.specs.Residue.{q}
use Rattle.words.specs.TabLaws.{length-tab, tab_of}
use Rattle.words.specs.Bounded.{Below}
use Rattle.words.specs.BoundedLaws.{below_append, below-take, below-drop, below-tab}
use Rattle.words.specs.Numeral.{value, digits}
use Rattle.words.specs.NumeralLaws.{length_digits, digits_split, digits_value}
use Rattle.ring.specs.Polynomial.{minus}
use Rattle.codec.specs.Bytes.{bits_of, byte_decode}
use Rattle.codec.specs.BytesLaws.{length-bits_of, below-bits_of, get_or-numbers_of, length-byte_decode}
use Rattle.refusals.specs.declared.Refusal.{Refusal}
use Rattle.refusals.specs.Refusals.{Done, number}
use Rattle.refusals.specs.RefusalLaws.{refusal_number-positive}
use Rattle.sampling.specs.SampleAnswer.{answer_of}
use Rattle.sampling.specs.Sample.{d₁, d₂, kept, accepted, sample_ntt, sum, sample_poly_cbd}

-- ---- SampleNTT

-- one group more
pub accepted_turn : (n : ℕ) (s : List ℕ) → accepted (n + 1) s ≡ (accepted n s ++ kept (d₁ s n)) ++ kept (d₂ s n)
unfolding accepted
accepted_turn n s = rw (add-one n) (sym (append_assoc (accepted n s) (kept (d₁ s n)) (kept (d₂ s n))))

pub length-sample_ntt : (s : List ℕ) → 256 ≤ length (accepted 280 s) → length (sample_ntt s) ≡ 256
unfolding sample_ntt
length-sample_ntt s h = length-take 256 (accepted 280 s) ∙ omega arith

-- by what it answers
pub answered_done : (b : Bool) → answer_of b ≡ Done → b ≡ true
answered_done true e = refl
answered_done false e = absurd (omega (arith, ap number e))

pub answered_err : (b : Bool) {r : Refusal} → Err r ≡ answer_of b → b ≡ false
answered_err true {r} e = absurd (omega (arith, ap number e, refusal_number-positive r))
answered_err false e = refl

-- ---- SamplePolyCBD

pub length-sample_poly_cbd : (eta : ℕ) (bytes : List ℕ) → length (sample_poly_cbd eta bytes) ≡ 256
unfolding sample_poly_cbd
length-sample_poly_cbd eta bytes = length-tab 256 _

pub below-sample_poly_cbd : (eta : ℕ) (bytes : List ℕ) → Below q (sample_poly_cbd eta bytes)
unfolding sample_poly_cbd
below-sample_poly_cbd eta bytes = below-tab 256 (omega arith) (λ i h. mod-lt _ (omega arith))

-- Algorithm 8, lines 3 to 5, on the 2 eta bits of v: the sum of the lowest eta less that of the others
unfoldable pub centred : ℕ → ℕ → ℕ
centred eta v = minus (sum (digits 2 eta (v % 2 ^ eta))) (sum (digits 2 eta (v / 2 ^ eta)))

module _ (eta : ℕ) (l m : List ℕ) (e : length l ≡ eta) (g : length m ≡ eta) (h : Below 2 l) (k : Below 2 m) where
  both : l ++ m ≡ digits 2 eta (value 2 (l ++ m) % 2 ^ eta) ++ digits 2 eta (value 2 (l ++ m) / 2 ^ eta)
  both =
      let v = value 2 (l ++ m) in
      sym (digits_value 2 (l ++ m) (below_append l h k))
      ∙ ap (λ (n : ℕ). digits 2 n v) (length-append l m ∙ omega arith)
      ∙ digits_split 2 eta eta v (omega arith)

  centred-value : centred eta (value 2 (l ++ m)) ≡ minus (sum l) (sum m)
  unfolding centred
  centred-value =
      let v = value 2 (l ++ m) in
      let x = digits 2 eta (v % 2 ^ eta) in
      let y = digits 2 eta (v / 2 ^ eta) in
      sym
      (ap₂ (λ (l m : List ℕ). minus (sum l) (sum m))
      (sym (take_at l m eta e) ∙ ap (take eta) both ∙ take_at x y eta (length_digits 2 eta (v % 2 ^ eta)))
      (sym (drop_at l m eta e) ∙ ap (drop eta) both ∙ drop_at x y eta (length_digits 2 eta (v % 2 ^ eta))))

module _ (eta : ℕ) (bytes : List ℕ) (e : length bytes ≡ 64 * eta) where
  -- eta bits, from a on
  part_long : (a : ℕ) → a + eta ≤ 512 * eta → length (take eta (drop a (bits_of 8 bytes))) ≡ eta
  part_long a h =
      length-take eta (drop a (bits_of 8 bytes))
      ∙ omega (arith, length-drop a (bits_of 8 bytes), length-bits_of 8 bytes)

  pub sample_poly_cbd-byte_decode : sample_poly_cbd eta bytes ≡ map (centred eta) (byte_decode (2 * eta) bytes)
  unfolding sample_poly_cbd byte_decode
  sample_poly_cbd-byte_decode =
      sym
      (tab_of (centred eta 0) (map (centred eta) (byte_decode (2 * eta) bytes)) 256
      (length-map (byte_decode (2 * eta) bytes) (centred eta) ∙ length-byte_decode (2 * eta) bytes)
      (λ i h.
      get_or-map (centred eta) (byte_decode (2 * eta) bytes) i 0
      ∙ ap (centred eta) (get_or-numbers_of (2 * eta) 256 (bits_of 8 bytes) i h)
      ∙ at i h))
    where
      at : (i : ℕ) → i < 256 → centred eta (value 2 (take (2 * eta) (drop (2 * eta * i) (bits_of 8 bytes))))
          ≡ minus (sum (take eta (drop (2 * i * eta) (bits_of 8 bytes))))
          (sum (take eta (drop (2 * i * eta + eta) (bits_of 8 bytes))))
      at i h =
          let b = bits_of 8 bytes in
          let n = 2 * i * eta in
          let l = mul-le-mul_right eta h in
          let p : 2 * eta * i ≡ n = omega arith in
          let r : 2 * eta ≡ eta + eta = omega arith in
          ap₂ (λ (j k : ℕ). centred eta (value 2 (take j (drop k b)))) r p
          ∙ ap (λ (m : List ℕ). centred eta (value 2 m))
          (take-add eta eta (drop n b) ∙ ap (λ (m : List ℕ). take eta (drop n b) ++ take eta m) (drop-drop eta n b))
          ∙ centred-value eta (take eta (drop n b)) (take eta (drop (n + eta) b))
          (part_long n (omega arith)) (part_long (n + eta) (omega arith))
          (below-take eta (below-drop n (below-bits_of 8 bytes)))
          (below-take eta (below-drop (n + eta) (below-bits_of 8 bytes)))
