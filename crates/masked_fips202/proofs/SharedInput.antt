-- The bytes of a hash's input in two shares: words as bytes, and a public string or zeros behind them.
use mathlib.Core.Path.{◌≡◌, refl, sym, ap, ◌∙◌}
use mathlib.Core.List.{List, ◌++◌}
use Prim.Native.Nat.{ℕ, zero, suc, ◌+◌, ◌-◌}
use native.Mathlib.Omega.{arith}
use lib.ListN.{length, get_or, take, drop, replicate, length-drop, length-replicate}
use Rattle.words.specs.LittleEndian.{words_to_bytes}
use Rattle.words.specs.LittleEndianLaws.{words_to_bytes_snoc}
use Rattle.words.specs.Numeral.{digits}
use Rattle.words.specs.Overwrite.{overwritten_start, overwritten_length, overwritten_part, two_parts}
use Rattle.words.specs.Part.{part_rest}
use Rattle.words.specs.Tab.{tab}
use Rattle.words.specs.TabLaws.{tab_of}
use Rattle.vectors.specs.Vector.{concat}

-- ---- words as bytes, word after word

bytes_tab : (n : ℕ) (f : ℕ → ℕ) → words_to_bytes 8 (tab n f) ≡ concat n (λ i. digits 256 8 (f i))
unfolding words_to_bytes tab concat
bytes_tab zero f = refl
bytes_tab (suc n) f =
    words_to_bytes_snoc 8 (tab n f) (f n) ∙ ap (λ (l : List ℕ). l ++ digits 256 8 (f n)) (bytes_tab n f)

pub bytes_concat : (l : List ℕ) → concat (length l) (λ i. digits 256 8 (get_or l i 0)) ≡ words_to_bytes 8 l
bytes_concat l =
    sym (ap (words_to_bytes 8) (tab_of 0 l (length l) refl (λ i h. refl)) ∙ bytes_tab (length l) (λ i. get_or l i 0))

-- ---- zeros behind them

-- a slice whose first k elements are written, and the n others cleared
pub zeros_behind : {r₁ t₁ r₂ : List ℕ} (l : List ℕ) (k n : ℕ) → length t₁ ≡ k → k + n ≡ length l → r₁ ≡ t₁
    → (let m = take 0 l ++ (r₁ ++ drop (k - 0) (drop 0 l)) in
    r₂ ≡ replicate (length (take (length m - k) (drop k m))) 0)
    → (let m = take 0 l ++ (r₁ ++ drop (k - 0) (drop 0 l)) in take k m ++ (r₂ ++ drop (length m - k) (drop k m)))
    ≡ t₁ ++ replicate n 0
zeros_behind {r₁} l k n h g e f =
    let m : List ℕ = take 0 l ++ (r₁ ++ drop (k - 0) (drop 0 l)) in
    let o = overwritten_part (overwritten_start {l = l}) 0 k refl (omega arith) (omega arith) e in
    let rest : length (take (length m - k) (drop k m)) ≡ n =
    ap length (part_rest k m) ∙ length-drop k m ∙ omega (arith, overwritten_length o) in
    two_parts l k h (omega (arith, length-replicate {A = ℕ} n 0)) e (f ∙ ap (λ (x : ℕ). replicate x 0) rest)
