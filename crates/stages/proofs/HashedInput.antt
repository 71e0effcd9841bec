-- A hash of four words in two shares with a public string in share 0: the code's input is the definition's.
use mathlib.Core.Path.{◌≡◌, refl, sym, ap, ◌∙◌}
use mathlib.Core.List.{List, ◌++◌}
use Prim.Native.Nat.{ℕ, ◌+◌}
use native.Mathlib.Omega.{arith}
use lib.ListN.{length, drop, replicate, length-append}
use Rattle.words.specs.LittleEndian.{words_to_bytes}
use Rattle.words.specs.LittleEndianLaws.{length-words_to_bytes}
use Rattle.words.specs.TabLaws.{tab_of}
use Rattle.worksheet.specs.declared.Recorder.{Recorder}
use Rattle.worksheet.specs.Prog.{Prog}
use Rattle.worksheet.specs.Ran.{Ran}
use Rattle.worksheet.specs.SharedList.{SharedList, shared_list}
use Rattle.stages.specs.Moves.{four, with_public}
use Rattle.stages.specs.Lent.{HashInput}

four_all : (l : List ℕ) → length l ≡ 4 → four l ≡ l
four_all l e = sym (tab_of 0 l 4 e (λ i h. refl))

-- a hash P of such an input, which draws M masks for the length of its input
module _ {len w n : ℕ} {w0 w1 public ws : List ℕ} {o : SharedList}
    (g : HashInput len w n (shared_list w0 w1) public ws o) (P : List ℕ → List ℕ → Prog SharedList) (M : ℕ → ℕ)
    (count : M (32 + len) ≡ w) {b0 : List ℕ} (e0 : b0 ≡ words_to_bytes 8 w0 ++ public) where
  length_input : length b0 ≡ 32 + len
  length_input =
      ap length e0 ∙ length-append (words_to_bytes 8 w0) public
      ∙ omega (arith, length-words_to_bytes 8 w0, g.input.long0, g.public)

  pub hash_masks : M (length b0) ≡ w
  hash_masks = ap M length_input ∙ count

  -- the shares b0 and b1 that the code makes are those of the definition
  pub hash_ran : {b1 cs : List ℕ} {v : SharedList} {r r' : Recorder}
      → b1 ≡ words_to_bytes 8 w1 ++ replicate (length public) 0
      → Ran (P b0 b1) r ws cs v r' (drop (M (length b0)) ws) cs
      → Ran (P (with_public (shared_list w0 w1) public).s0 (with_public (shared_list w0 w1) public).s1)
      r ws cs v r' (drop w ws) cs
  hash_ran e1 h =
      rw (four_all w0 g.input.long0, four_all w1 g.input.long1, ← e0, ← e1) (rw hash_masks at h)
