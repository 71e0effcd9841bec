-- Permutations by which draws are matched, and draws matched by a constant.
use Rattle.std.specs.Prelude.{ℕ, ◌+◌, ◌-◌, ◌%◌, ◌<◌, ◌≤◌, ◌≡◌, refl}
use Rattle.std.proofs.Common.{ap, ◌∙◌, arith}
use Rattle.words.specs.Word.{xor, low}
use Rattle.words.specs.Bits.{Bits}
use Rattle.words.specs.WordLaws.{xor-bits, bits_mono, low_bits, low-xor, low_of_bits, xor-xor_cancel}
use Rattle.worksheet.specs.Prog.{word, coeff, bound, Prog, ◌>>=◌, mask, mask_low}
use Rattle.worksheet.specs.SumLaws.{Perm}
use Rattle.worksheet.specs.Couple.{Coupled, draw_c, SameAt, under}

-- each mask with itself
unfoldable pub identity : {n : ℕ} → Perm n
identity =
    record {
      to = λ x. x;
      from = λ x. x;
      to_lt = λ x h. h;
      from_lt = λ x h. h;
      to_from = λ x h. refl;
      from_to = λ x h. refl;
    }

-- a word with its exclusive or with c
unfoldable pub by_xor : {c : ℕ} → Bits 64 c → Perm (bound word)
by_xor {c} w =
    record {
      to = λ x. xor x c;
      from = λ x. xor x c;
      to_lt = λ x h. (xor-bits (record { lt = h }) w).lt;
      from_lt = λ x h. (xor-bits (record { lt = h }) w).lt;
      to_from = λ x h. xor-xor_cancel x c;
      from_to = λ x h. xor-xor_cancel x c;
    }

-- a coefficient with its sum with c
unfoldable pub by_adding : {c : ℕ} → c < 3329 → Perm (bound coeff)
by_adding {c} w =
    record {
      to = λ x. (x + c) % 3329;
      from = λ x. (x + (3329 - c)) % 3329;
      to_lt = λ x h. omega arith;
      from_lt = λ x h. omega arith;
      to_from = λ x h. omega arith;
      from_to = λ x h. omega arith;
    }

low-xor-bits : {n c : ℕ} (x : ℕ) → Bits n c → low n (xor x c) ≡ xor (low n x) c
low-xor-bits {n} {c} x w = low-xor n x c ∙ ap (xor (low n x)) (low_of_bits w)

-- the n lowest bits of a word that is drawn, with their exclusive or with c
module _ {A B : Type 0} {n c : ℕ} (h : n ≤ 64) (w : Bits n c) (k : ℕ → Prog A) (k' : ℕ → Prog B) where
  pub coupled-mask_low : {R : A → B → Type 0} {m : ℕ} → ((r : ℕ) → Bits n r → Coupled R m (k r) (k' (xor r c)))
      → Coupled R m (mask_low n >>= k) (mask_low n >>= k')
  unfolding mask_low mask ◌>>=◌ by_xor
  coupled-mask_low {R} {m} f = draw_c {m = word} (by_xor (bits_mono h w)) go
    where
      go : (x : ℕ) → x < bound word → Coupled R m (k (low n x)) (k' (low n (xor x c)))
      go x lt = rw (low-xor-bits x w) (f (low n x) (low_bits x))

  pub same_at_mask_low : {i : ℕ} → ((r : ℕ) → Bits n r → SameAt i (k r) (k' (xor r c)))
      → SameAt i (mask_low n >>= k) (mask_low n >>= k')
  unfolding mask_low mask ◌>>=◌ by_xor
  same_at_mask_low {i} f = under {m = word} (by_xor (bits_mono h w)) go
    where
      go : (x : ℕ) → x < bound word → SameAt i (k (low n x)) (k' (low n (xor x c)))
      go x lt = rw (low-xor-bits x w) (f (low n x) (low_bits x))
