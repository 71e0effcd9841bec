-- Programs that draw masks and enter values.
-- A strip is a list of masks, lent in advance and drawn strictly in order: one strip of words, one of coefficients.
-- An entry, or step, is a value that is written down; the worksheet is the list of all entries, and steps count from 0.
use Rattle.std.specs.Prelude.{ℕ, zero, suc, ◌^◌, List, [], ◌∷◌, ◌++◌, get_or}
use Rattle.words.specs.Word.{low}

pub data Mask : Type 0 where
  word coeff : Mask

-- a mask of each kind is a number below this
abbrev pub bound : Mask → ℕ
bound word = 2 ^ 64
bound coeff = 3329

pub data Prog (A : Type 0) : Type 0 where
  ret : A → Prog A
  draw : Mask → (ℕ → Prog A) → Prog A
  enter : ℕ → Prog A → Prog A

infixl 10 ◌>>=◌
unfoldable pub ◌>>=◌ : {A B : Type 0} → Prog A → (A → Prog B) → Prog B
◌>>=◌ (ret a) f = f a
◌>>=◌ (draw m k) f = draw m (λ x. k x >>= f)
◌>>=◌ (enter v p) f = enter v (p >>= f)

-- draws the next mask and hands it back
unfoldable pub mask : Mask → Prog ℕ
mask m = draw m ret

-- draws the next mask word and hands back its n lowest bits
unfoldable pub mask_low : ℕ → Prog ℕ
mask_low n = mask word >>= λ x. ret (low n x)

-- enters v and hands it back
unfoldable pub entry : ℕ → Prog ℕ
entry v = enter v (ret v)

-- n turns that hand on a state; f j is turn j
unfoldable pub loop : {S : Type 0} → ℕ → (ℕ → S → Prog S) → S → Prog S
loop zero f s = ret s
loop (suc n) f s = loop n f s >>= f n

-- p, and its result at the end of ys
abbrev pub snoc : {A : Type 0} → Prog A → List A → Prog (List A)
snoc p ys = p >>= λ y. ret (ys ++ y ∷ [])

-- the results of turns 0, 1, .. n - 1
unfoldable pub times : {A : Type 0} → ℕ → (ℕ → Prog A) → Prog (List A)
times n f = loop n (λ j ys. snoc (f j) ys) []

-- n turns that hand on a state, and all states, the first and the last with them
unfoldable pub chain : {S : Type 0} → ℕ → (ℕ → S → Prog S) → S → Prog (List S)
chain n f s = loop n (λ j ts. snoc (f j (get_or ts j s)) ts) (s ∷ [])
