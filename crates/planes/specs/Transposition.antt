-- Bit planes by transposition: 64 numbers of 32 bits are packed two to a word, and five steps make 32 planes of the 32
-- words.
use Rattle.std.specs.Prelude.{ℕ, zero, suc, ◌+◌, ◌*◌, ◌/◌, ◌%◌, ◌^◌}
use Rattle.words.specs.Word.{xor, and, low}

-- one of two by a bit
abbrev pub pick : {A : Type 0} → ℕ → A → A → A
pick zero x y = x
pick (suc b) x y = y

-- the lower halves of numbers r and r + 32
unfoldable pub packed : (ℕ → ℕ) → ℕ → ℕ
packed v r = xor (low 32 (v r)) (v (r + 32) * 2 ^ 32 % 2 ^ 64)

-- where m has a 1, the bit of y and the bit s places higher of x change places
unfoldable pub differences : ℕ → ℕ → ℕ → ℕ → ℕ
differences s m x y = and (xor (x / 2 ^ s) y) m

abbrev pub lower : ℕ → ℕ → ℕ → ℕ → ℕ
lower s m x y = xor x (differences s m x y * 2 ^ s % 2 ^ 64)

abbrev pub upper : ℕ → ℕ → ℕ → ℕ → ℕ
upper s m x y = xor y (differences s m x y)

-- row r after a step: rows i and i + 16 become rows 2 i and 2 i + 1
unfoldable pub stepped : ℕ → ℕ → (ℕ → ℕ) → ℕ → ℕ
stepped s m w r =
    let x = w (r / 2) in
    let y = w (r / 2 + 16) in
    pick (r % 2) (lower s m x y) (upper s m x y)

unfoldable pub transposed : (ℕ → ℕ) → ℕ → ℕ
transposed v =
    stepped 1 6148914691236517205
    (stepped 2 3689348814741910323
    (stepped 4 1085102592571150095 (stepped 8 71777214294589695 (stepped 16 281470681808895 (packed v)))))
