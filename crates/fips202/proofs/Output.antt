-- Output given out block by block, each from a state of its own.
use mathlib.Core.Path.{◌≡◌, ◌∙◌}
use mathlib.Core.List.{List, ◌++◌}
use Prim.Native.Nat.{ℕ, ◌+◌, ◌-◌, ◌*◌, ◌/◌, ◌%◌, ◌<◌, ◌≤◌}
use native.Mathlib.Omega.{arith}
use lib.Arith.{digits_div, digits_mod}
use lib.ListN.{length, take, drop}
use Rattle.words.specs.Tab.{tab}
use Rattle.words.specs.TabLaws.{tab_cong}
use Rattle.words.specs.Part.{length_part}
use Rattle.words.specs.Fill.{Filled, filled_start, filled_part, filled_end}

-- what a state gives at each place: its bytes, or its lanes
abbrev pub Reading : Type 0 → Type 0
Reading A = List ℕ → ℕ → A

module _ {A : Type 0} where
  -- element i of the output, where block q comes from the state s q and has so many elements
  abbrev pub output_of : Reading A → ℕ → (ℕ → List ℕ) → ℕ → A
  output_of read per s i = read (s (i / per)) (i % per)

  -- k elements of block q's state t are the output from the block's start on
  block_output : (read : Reading A) {per a : ℕ} (s : ℕ → List ℕ) {t : List ℕ} (q k : ℕ) → a ≡ q * per → t ≡ s q
      → k ≤ per → tab k (read t) ≡ tab k (λ i. output_of read per s (a + i))
  block_output read {per} s q k e r h =
      tab_cong k (λ i g. let l : i < per = omega arith in rw (r, e, digits_div q l, digits_mod q l))

  -- the first a of the n elements of out are given out
  pub record Output (read : Reading A) (per n : ℕ) (s : ℕ → List ℕ) (a : ℕ) (out : List A) : Type 0 where
    pub filled : Filled n (output_of read per s) a out

  pub output_start : {read : Reading A} {per n : ℕ} {s : ℕ → List ℕ} {out : List A} → length out ≡ n
      → Output read per n s 0 out
  output_start e = record { filled = filled_start e }

  -- the next, up to e, are those of block q's state t
  pub output_part : {read : Reading A} {per n a e : ℕ} {s : ℕ → List ℕ} {t : List ℕ} {out p : List A} (q : ℕ)
      → Output read per n s a out → a ≡ q * per → t ≡ s q
      → a ≤ e → e ≤ n → e - a ≤ per → p ≡ tab (length (take (e - a) (drop a out))) (read t)
      → Output read per n s e (take a out ++ (p ++ drop (e - a) (drop a out)))
  output_part {read} {a = a} {e = e} {s = s} {out = out} q f b r h g k w =
      let l = f.filled in
      record {
        filled = filled_part l h g
            (w ∙ rw (length_part a (e - a) out (omega (arith, l.long))) (block_output read s q (e - a) b r k));
      }

  pub output_end : {read : Reading A} {per n a : ℕ} {s : ℕ → List ℕ} {out : List A} → Output read per n s a out → n ≤ a
      → out ≡ tab n (output_of read per s)
  output_end f h = filled_end f.filled h
