-- Laws of words as bytes: n bytes for each word, the lowest first.
use Rattle.std.specs.Prelude.{◌≡◌, get_or, drop}
use Rattle.std.proofs.Math.Path.{refl, sym, ap, ap₂}
use Rattle.std.proofs.Common.{◌∙◌, subst, mul-zero, zero-mul, arith, take-append-drop, length-take-le, take_at, drop_at}
use Rattle.std.proofs.Common.{take-add, take_all}
use mathlib.Core.List.{List, [], ◌∷◌, ◌++◌, append-nil, append_assoc}
use Prim.Native.Nat.{ℕ, zero, suc, ◌+◌, ◌-◌, ◌*◌, ◌/◌, ◌%◌, ◌^◌, ◌<◌, ◌≤◌}
use Rattle.std.proofs.Math.Nat.{mul-suc, zero-div}
use Rattle.std.proofs.Math.ListN.{length, take, length-append}
use Rattle.words.specs.Tab.{tab}
use Rattle.words.specs.TabLaws.{tab_of}
use Rattle.words.specs.Bounded.{Below}
use Rattle.words.specs.BoundedLaws.{below_nil, below_append, below-take, below-drop}
use Rattle.words.specs.Part.{length_part}
use Rattle.words.specs.Numeral.{digits, value}
use Rattle.words.specs.NumeralLaws.{length_digits, below-digits, digits_value, get_or-digits_append}
use Rattle.words.specs.LittleEndian.{words_to_bytes}

module _ (n : ℕ) where
  pub length-words_to_bytes : (l : List ℕ) → length (words_to_bytes n l) ≡ n * length l
  unfolding words_to_bytes
  length-words_to_bytes [] = sym (mul-zero n)
  length-words_to_bytes (w ∷ l) =
      length-append (digits 256 n w) (words_to_bytes n l)
      ∙ omega (arith, length_digits 256 n w, length-words_to_bytes l, mul-suc n (length l))

  pub below-words_to_bytes : (l : List ℕ) → Below 256 (words_to_bytes n l)
  unfolding words_to_bytes
  below-words_to_bytes [] = below_nil (omega arith)
  below-words_to_bytes (w ∷ l) =
      below_append (digits 256 n w) (below-digits 256 n w (omega arith)) (below-words_to_bytes l)

  words_to_bytes_append : (l m : List ℕ) → words_to_bytes n (l ++ m) ≡ words_to_bytes n l ++ words_to_bytes n m
  unfolding words_to_bytes
  words_to_bytes_append [] m = refl
  words_to_bytes_append (w ∷ l) m =
      ap (λ (k : List ℕ). digits 256 n w ++ k) (words_to_bytes_append l m)
      ∙ sym (append_assoc (digits 256 n w) (words_to_bytes n l) (words_to_bytes n m))

  -- one more word, one more part of n bytes
  pub words_to_bytes_snoc : (l : List ℕ) (w : ℕ) → words_to_bytes n (l ++ w ∷ []) ≡ words_to_bytes n l ++ digits 256 n w
  unfolding words_to_bytes
  words_to_bytes_snoc l w =
      words_to_bytes_append l (w ∷ []) ∙ ap (λ (k : List ℕ). words_to_bytes n l ++ k) (append-nil (digits 256 n w))

  -- byte i is byte i % n of word i / n
  pub get_or-words_to_bytes : (l : List ℕ) (i : ℕ) → 0 < n
      → get_or (words_to_bytes n l) i 0 ≡ get_or l (i / n) 0 / 256 ^ (i % n) % 256
  unfolding words_to_bytes
  get_or-words_to_bytes [] i h = sym (ap (λ (x : ℕ). x % 256) (zero-div (256 ^ (i % n))))
  get_or-words_to_bytes (w ∷ l) i h =
      get_or-digits_append 256 n w l (words_to_bytes n l) i h (get_or-words_to_bytes l (i - n) h)

  pub words_to_bytes-tab : (l : List ℕ)
      → words_to_bytes n l ≡ tab (n * length l) (λ i. get_or l (i / n) 0 / 256 ^ (i % n) % 256)
  words_to_bytes-tab l =
      tab_of 0 (words_to_bytes n l) (n * length l) (length-words_to_bytes l)
      (λ i h. get_or-words_to_bytes l i (positive n h))
    where
      positive : (k : ℕ) {i : ℕ} → i < k * length l → 0 < k
      positive zero {i} h = absurd (omega (arith, subst (λ (z : ℕ). i < z) (zero-mul (length l)) h))
      positive (suc k) h = omega arith

  -- the bytes of the first m words, and those of the others
  module _ (m : ℕ) (l : List ℕ) (h : m ≤ length l) where
    split : words_to_bytes n l ≡ words_to_bytes n (take m l) ++ words_to_bytes n (drop m l)
    split = ap (words_to_bytes n) (sym (take-append-drop m l)) ∙ words_to_bytes_append (take m l) (drop m l)

    long : length (words_to_bytes n (take m l)) ≡ n * m
    long = length-words_to_bytes (take m l) ∙ ap (λ (k : ℕ). n * k) (length-take-le m l h)

    pub take-words_to_bytes : take (n * m) (words_to_bytes n l) ≡ words_to_bytes n (take m l)
    take-words_to_bytes = ap (take (n * m)) split ∙ take_at (words_to_bytes n (take m l)) _ (n * m) long

    pub drop-words_to_bytes : drop (n * m) (words_to_bytes n l) ≡ words_to_bytes n (drop m l)
    drop-words_to_bytes = ap (drop (n * m)) split ∙ drop_at (words_to_bytes n (take m l)) _ (n * m) long

  -- the words that bytes hold, as bytes again
  module _ (b : List ℕ) (h : Below 256 b) where
    front : (m : ℕ) → n * m ≤ length b
        → words_to_bytes n (tab m (λ i. value 256 (take n (drop (n * i) b)))) ≡ take (n * m) b
    unfolding tab words_to_bytes
    front zero g = ap (λ (k : ℕ). take k b) (sym (mul-zero n))
    front (suc m) g =
        let fits : n * m + n ≤ length b = omega (arith, mul-suc n m) in
        let p = take n (drop (n * m) b) in
        let long : length p ≡ n = length_part (n * m) n b fits in
        words_to_bytes_snoc (tab m (λ i. value 256 (take n (drop (n * i) b)))) (value 256 p)
        ∙ ap₂ (λ (x y : List ℕ). x ++ y)
        (front m (omega arith))
        (rw long at (digits_value 256 p (below-take n (below-drop (n * m) h))))
        ∙ sym (take-add (n * m) n b)
        ∙ ap (λ (k : ℕ). take k b) (sym (mul-suc n m))

    pub words_to_bytes_words : (m : ℕ) → length b ≡ n * m
        → words_to_bytes n (tab m (λ i. value 256 (take n (drop (n * i) b)))) ≡ b
    words_to_bytes_words m e = front m (omega arith) ∙ take_all (n * m) b (omega arith)
