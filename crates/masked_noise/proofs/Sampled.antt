-- A noise polynomial's bits, read from one share's words: bits that cross a word's end, and what is sampled from them.
use mathlib.Core.Path.{◌≡◌, sym, ap, ap₂, ◌∙◌}
use mathlib.Core.List.{List}
use Prim.Native.Nat.{ℕ, ◌+◌, ◌-◌, ◌*◌, ◌/◌, ◌%◌, ◌^◌, ◌<◌, ◌≤◌}
use native.Mathlib.Decide.{dec_lt}
use native.Mathlib.Omega.{arith}
use lib.Bits.{differ, xor_shifted}
use lib.ListN.{get_or}
use lib.Pow.{high, low, shr_lt}
use Rattle.words.specs.Digit.{digit}
use Rattle.words.specs.DigitLaws.{digit_div, digit_mod, digit-xor}
use Rattle.words.specs.Word.{xor}
use Rattle.words.specs.WordLaws.{xor_comm}
use Rattle.worksheet.specs.declared.Recorder.{Recorder}
use Rattle.worksheet.specs.Shares.{Shares}
use Rattle.worksheet.specs.Ran.{Ran}
use Rattle.worksheet.specs.Sharing.{shares}
use Rattle.worksheet.specs.SharedList.{SharedList}
use Rattle.masked_sampler.specs.Coefficient.{sampler}
use Rattle.masked_sampler.specs.Bit as Bit
use Rattle.masked_sampler.specs.SamplerLaws.{sampler_cong}
use Rattle.stages.specs.Moves.{string_bit}
use Rattle.masked_noise.specs.Lent.{BitsRead}

-- ---- a word x moved up by t places, beside a number y of t bits

module _ (x y t j : ℕ) (short : y < 2 ^ t) (h : j < 64) where
  digit_beside : digit j (xor y (x * 2 ^ t % 2 ^ 64)) ≡ digit j (x * 2 ^ t + y)
  unfolding xor
  digit_beside =
      digit-xor j y (x * 2 ^ t % 2 ^ 64)
      ∙ ap (differ (digit j y)) (digit_mod j 64 (x * 2 ^ t) h)
      ∙ sym (digit-xor j y (x * 2 ^ t))
      ∙ ap (digit j) (xor_comm y (x * 2 ^ t) ∙ xor_shifted x t y short)

  -- its lowest bits are y's
  digit_first : j < t → digit j (xor y (x * 2 ^ t % 2 ^ 64)) ≡ digit j y
  digit_first g = digit_beside ∙ sym (digit_mod j t (x * 2 ^ t + y) g) ∙ ap (digit j) (low x t short)

  -- and those above them x's
  digit_next : t ≤ j → digit j (xor y (x * 2 ^ t % 2 ^ 64)) ≡ digit (j - t) x
  digit_next g =
      let e : t + (j - t) ≡ j = omega arith in
      digit_beside
      ∙ ap (λ (i : ℕ). digit i (x * 2 ^ t + y)) (sym e)
      ∙ sym (digit_div (j - t) t (x * 2 ^ t + y))
      ∙ ap (digit (j - t)) (high x t short)

-- ---- n bits of the words o from bit s on

module _ (o : List ℕ) (s n : ℕ) where
  -- in one word
  pub bits_within : s % 64 + n ≤ 64 → BitsRead o s n (get_or o (s / 64) 0 / 2 ^ (s % 64))
  bits_within h =
      record {
        at = λ j g.
            let a : (s + j) % 64 ≡ s % 64 + j = omega arith in
            let b : (s + j) / 64 ≡ s / 64 = omega arith in
            rw (a, b) (digit_div j (s % 64) (get_or o (s / 64) 0));
      }

  -- in two
  pub bits_across : 64 < s % 64 + n → n ≤ 64 → get_or o (s / 64) 0 < 2 ^ 64
      → BitsRead o s n
      (xor (get_or o (s / 64) 0 / 2 ^ (s % 64)) (get_or o (s / 64 + 1) 0 * 2 ^ (64 - s % 64) % 2 ^ 64))
  bits_across h m l = record { at = λ j g. at j g (dec_lt j t) }
    where
      t : ℕ
      t = 64 - s % 64

      x : ℕ
      x = get_or o (s / 64) 0

      x' : ℕ
      x' = get_or o (s / 64 + 1) 0

      short : x / 2 ^ (s % 64) < 2 ^ t
      short = let e : t + s % 64 ≡ 64 = omega arith in shr_lt t (s % 64) (rw e l)

      at : (j : ℕ) → j < n → Dec (j < t)
          → digit j (xor (x / 2 ^ (s % 64)) (x' * 2 ^ t % 2 ^ 64)) ≡ digit ((s + j) % 64) (get_or o ((s + j) / 64) 0)
      at j g (yes k) =
          let a : (s + j) % 64 ≡ s % 64 + j = omega arith in
          let b : (s + j) / 64 ≡ s / 64 = omega arith in
          rw (a, b) (digit_first x' (x / 2 ^ (s % 64)) t j short (omega arith) k ∙ digit_div j (s % 64) x)
      at j g (no k) =
          let a : (s + j) % 64 ≡ j - t = omega arith in
          let b : (s + j) / 64 ≡ s / 64 + 1 = omega arith in
          rw (a, b) (digit_next x' (x / 2 ^ (s % 64)) t j short (omega arith) (omega arith))

-- ---- a coefficient

pub sampled : (eta : ℕ) (w : SharedList) (s : ℕ) {x y : ℕ} {a : Shares} {r r' : Recorder} {ws ws' cs cs' : List ℕ}
    → BitsRead w.s0 s (2 * eta) x → BitsRead w.s1 s (2 * eta) y
    → Ran (sampler eta (Bit.bit_of (shares x y))) r ws cs a r' ws' cs'
    → Ran (sampler eta (λ j. string_bit w (s + j))) r ws cs a r' ws' cs'
sampled eta w s {x} {y} e0 e1 h =
    rw
    (sampler_cong eta (λ j. string_bit w (s + j)) (Bit.bit_of (shares x y))
    (λ j g. ap₂ shares (sym (e0.at j g)) (sym (e1.at j g))))
    h
