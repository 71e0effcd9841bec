-- The three calls write the shares of the secret, those of z, and the public key and h, which stand side by side in dk;
-- the limit and the count are written behind them.
use mathlib.Core.Path.{◌≡◌, ap, ap₂, ◌∙◌}
use mathlib.Core.List.{List, ◌++◌}
use Prim.Native.Nat.{ℕ, ◌+◌, ◌-◌}
use native.Mathlib.Omega.{arith}
use lib.ListN.{get_or, take, drop}
use lib.Seq.{take-add, drop-drop}
use Rattle.words.specs.Part.{part_span}
use Rattle.words.specs.Tab.{tab}
use Rattle.words.specs.Word.{xor}
use Rattle.fips202.specs.Sponge.{lane_of}
use Rattle.worksheet.specs.SharedList.{SharedList, shared_list}
use Rattle.parameters.specs.Lengths.{vector_bytes}
use Rattle.split_key.specs.SplitKey.{SplitKey, second_coeffs, second_words, split}
use Rattle.split_key.specs.KeyState.{key_state}
use Rattle.split_key_import.proofs.write_split.Goals as goal

-- ---- facts: the parts of dk by the lengths that were counted, n to the public key and m of it
module _ (dk : List ℕ) {n m a b : ℕ} (e : n ≡ a) (f : m ≡ b) where
  z-by : take (n + m + 32 + 32 - (n + m + 32)) (drop (n + m + 32) dk) ≡ take 32 (drop (a + b + 32) dk)
  z-by = part_span (n + m + 32) 32 dk ∙ ap₂ (λ (x y : ℕ). take 32 (drop (x + y + 32) dk)) e f

  public-by : take (n + m + 32 - n) (drop n dk) ≡ take b (drop a dk) ++ take 32 (drop (a + b) dk)
  public-by =
      let g : n + m + 32 - n ≡ b + 32 = omega arith in
      ap₂ (λ (x y : ℕ). take x (drop y dk)) g e
      ∙ take-add b 32 (drop a dk)
      ∙ ap (λ (l : List ℕ). take b (drop a dk) ++ take 32 l) (drop-drop b a dk)

abbrev key_of : SharedList → SharedList → List ℕ → SplitKey
key_of s z public = record { s = s; z = z; public = public }

same_key : {s s' z z' : SharedList} {h h' : List ℕ} → s ≡ s' → z ≡ z' → h ≡ h' → key_of s z h ≡ key_of s' z' h'
same_key {s} {s'} {z} {z'} {h} es ez eh = ap₂ (λ (x y : SharedList). key_of x y h) es ez ∙ ap (key_of s' z') eh

pub returns-clause-imported : goal.returns-clause-imported
unfolding second_coeffs second_words split
returns-clause-imported c =
    let i = c.args in
    let n = c.vector_bytes-n in
    let m = c.ek_bytes.ensures in
    let w = i.masks.now.words.now in
    let split-z : List ℕ → SharedList = λ l. shared_list w (tab 4 (λ i. xor (lane_of l i) (get_or w i 0))) in
    let secret : n.result - 0 ≡ vector_bytes i.p = omega (arith, n.ensures) in
    ap (λ (key : SplitKey). key_state key i.limit 0)
    (same_key (rw secret at c.split_coefficients.ensures)
    (c.split_words.ensures ∙ ap split-z (z-by i.dk.now n.ensures m))
    (c.copy_public.ensures ∙ public-by i.dk.now n.ensures m))
