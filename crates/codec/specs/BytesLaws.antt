-- Encoding and decoding undo each other.
use Rattle.std.specs.Prelude.{◌≡◌, refl, List, [], ◌∷◌, ◌++◌, map, ℕ, zero, suc, ◌+◌, ◌*◌, ◌%◌, ◌^◌, ◌<◌, length}
use Rattle.std.specs.Prelude.{get_or, take, drop}
use Rattle.std.proofs.Common.{sym, ap, ap₂, ◌∙◌, append_assoc, mod-eq_of_lt, arith, pow_pos, length-append, length-take}
use Rattle.std.proofs.Common.{length-drop, take-append-drop, take_at, drop_at, drop-drop}
use Rattle.std.proofs.lemmas.List.{length-map}
use Rattle.words.specs.Residue.{q}
use Rattle.words.specs.Bounded.{Below}
use Rattle.words.specs.BoundedLaws.{below_nil, below_cons, below_head, below_tail, below_append, below-take, below-drop}
use Rattle.words.specs.Numeral.{value, digits}
use Rattle.words.specs.NumeralLaws.{length_digits, below-digits, value-digits, digits_value, value_lt}
use Rattle.codec.specs.Bytes.{bits_of, numbers_of, byte_encode, byte_decode, byte_decode12}

pub length-bits_of : (d : ℕ) (l : List ℕ) → length (bits_of d l) ≡ d * length l
unfolding bits_of
length-bits_of d [] = omega arith
length-bits_of d (x ∷ l) =
    length-append (digits 2 d x) (bits_of d l) ∙ omega (arith, length_digits 2 d x, length-bits_of d l)

pub below-bits_of : (d : ℕ) (l : List ℕ) → Below 2 (bits_of d l)
unfolding bits_of
below-bits_of d [] = below_nil (omega arith)
below-bits_of d (x ∷ l) = below_append (digits 2 d x) (below-digits 2 d x (omega arith)) (below-bits_of d l)

pub bits_of_append : (d : ℕ) (l m : List ℕ) → bits_of d (l ++ m) ≡ bits_of d l ++ bits_of d m
unfolding bits_of
bits_of_append d [] m = refl
bits_of_append d (x ∷ l) m =
    ap (λ (k : List ℕ). digits 2 d x ++ k) (bits_of_append d l m)
    ∙ sym (append_assoc (digits 2 d x) (bits_of d l) (bits_of d m))

length-numbers_of : (d n : ℕ) (b : List ℕ) → length (numbers_of d n b) ≡ n
unfolding numbers_of
length-numbers_of d zero b = refl
length-numbers_of d (suc n) b = ap suc (length-numbers_of d n (drop d b))

pub get_or-numbers_of : (d n : ℕ) (b : List ℕ) (i : ℕ) → i < n
    → get_or (numbers_of d n b) i 0 ≡ value 2 (take d (drop (d * i) b))
unfolding numbers_of
get_or-numbers_of d zero b i h = absurd (omega arith)
get_or-numbers_of d (suc n) b zero h = let e : d * 0 ≡ 0 = omega arith in rw e
get_or-numbers_of d (suc n) b (suc i) h =
    let e : d + d * i ≡ d * suc i = omega arith in
    get_or-numbers_of d n (drop d b) i (omega arith)
    ∙ ap (λ (l : List ℕ). value 2 (take d l)) (drop-drop (d * i) d b ∙ ap (λ (k : ℕ). drop k b) e)

below-numbers_of : (d n : ℕ) {b : List ℕ} → length b ≡ d * n → Below 2 b → Below (2 ^ d) (numbers_of d n b)
unfolding numbers_of
below-numbers_of d zero e h = below_nil (pow_pos d)
below-numbers_of d (suc n) {b} e h =
    let t : length (take d b) ≡ d = length-take d b ∙ omega arith in
    below_cons (rw t at (value_lt 2 (take d b) (below-take d h)))
    (below-numbers_of d n (length-drop d b ∙ omega arith) (below-drop d h))

pub numbers_of-bits_of : (d : ℕ) (l : List ℕ) → Below (2 ^ d) l → numbers_of d (length l) (bits_of d l) ≡ l
unfolding numbers_of bits_of
numbers_of-bits_of d [] h = refl
numbers_of-bits_of d (x ∷ l) h =
    let e = length_digits 2 d x in
    rw (take_at (digits 2 d x) (bits_of d l) d e, drop_at (digits 2 d x) (bits_of d l) d e)
    (ap₂ (λ (y : ℕ) (m : List ℕ). y ∷ m)
    (value-digits 2 d x (omega arith) ∙ mod-eq_of_lt (below_head h))
    (numbers_of-bits_of d l (below_tail h)))

pub bits_of-numbers_of : (d n : ℕ) (b : List ℕ) → length b ≡ d * n → Below 2 b → bits_of d (numbers_of d n b) ≡ b
unfolding numbers_of bits_of
bits_of-numbers_of d zero [] e h = refl
bits_of-numbers_of d zero (x ∷ b) e h = absurd (omega arith)
bits_of-numbers_of d (suc n) b e h =
    let t : length (take d b) ≡ d = length-take d b ∙ omega arith in
    ap₂ (λ (l m : List ℕ). l ++ m)
    (rw t at (digits_value 2 (take d b) (below-take d h)))
    (bits_of-numbers_of d n (drop d b) (length-drop d b ∙ omega arith) (below-drop d h))
    ∙ take-append-drop d b

-- ---- ByteEncode_d and ByteDecode_d, at every d

pub length-byte_encode : (d : ℕ) (f : List ℕ) → length (byte_encode d f) ≡ 32 * d
unfolding byte_encode
length-byte_encode d f = length-numbers_of 8 (32 * d) (bits_of d f)

pub length-byte_decode : (d : ℕ) (b : List ℕ) → length (byte_decode d b) ≡ 256
unfolding byte_decode
length-byte_decode d b = length-numbers_of d 256 (bits_of 8 b)

pub below-byte_encode : (d : ℕ) (f : List ℕ) → length f ≡ 256 → Below 256 (byte_encode d f)
unfolding byte_encode
below-byte_encode d f e =
    below-numbers_of 8 (32 * d) (length-bits_of d f ∙ omega (arith, ap (λ (n : ℕ). d * n) e)) (below-bits_of d f)

pub below-byte_decode : (d : ℕ) (b : List ℕ) → length b ≡ 32 * d → Below (2 ^ d) (byte_decode d b)
unfolding byte_decode
below-byte_decode d b e = below-numbers_of d 256 (length-bits_of 8 b ∙ omega arith) (below-bits_of 8 b)

pub byte_decode-byte_encode : (d : ℕ) (f : List ℕ) → length f ≡ 256 → Below (2 ^ d) f
    → byte_decode d (byte_encode d f) ≡ f
unfolding byte_decode byte_encode
byte_decode-byte_encode d f e h =
    ap (numbers_of d 256)
    (bits_of-numbers_of 8 (32 * d) (bits_of d f)
    (length-bits_of d f ∙ omega (arith, ap (λ (n : ℕ). d * n) e)) (below-bits_of d f))
    ∙ ap (λ (n : ℕ). numbers_of d n (bits_of d f)) (sym e)
    ∙ numbers_of-bits_of d f h

pub byte_encode-byte_decode : (d : ℕ) (b : List ℕ) → length b ≡ 32 * d → Below 256 b
    → byte_encode d (byte_decode d b) ≡ b
unfolding byte_decode byte_encode
byte_encode-byte_decode d b e h =
    ap (numbers_of 8 (32 * d))
    (bits_of-numbers_of d 256 (bits_of 8 b) (length-bits_of 8 b ∙ omega arith) (below-bits_of 8 b))
    ∙ ap (λ (n : ℕ). numbers_of 8 n (bits_of 8 b)) (sym e)
    ∙ numbers_of-bits_of 8 b h

-- ---- ByteDecode_12

pub length-byte_decode12 : (b : List ℕ) → length (byte_decode12 b) ≡ 256
unfolding byte_decode12
length-byte_decode12 b = length-map (byte_decode 12 b) (λ x. x % q) ∙ length-byte_decode 12 b

-- numbers below q are left as they are
mod_of_below : (l : List ℕ) → Below q l → map (λ x. x % q) l ≡ l
mod_of_below [] h = refl
mod_of_below (x ∷ l) h =
    ap₂ (λ (y : ℕ) (m : List ℕ). y ∷ m) (mod-eq_of_lt (below_head h)) (mod_of_below l (below_tail h))

-- so that they are what is encoded
pub byte_decode12-below : (b : List ℕ) → Below q (byte_decode 12 b) → byte_decode12 b ≡ byte_decode 12 b
unfolding byte_decode12
byte_decode12-below b h = mod_of_below (byte_decode 12 b) h

pub byte_decode12-byte_encode : (f : List ℕ) → length f ≡ 256 → Below q f → byte_decode12 (byte_encode 12 f) ≡ f
unfolding byte_decode12
byte_decode12-byte_encode f e h =
    ap (map (λ x. x % q)) (byte_decode-byte_encode 12 f e (record { at = λ k. omega (arith, h.at k) }))
    ∙ mod_of_below f h
