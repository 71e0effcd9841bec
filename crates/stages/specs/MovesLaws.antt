-- Lengths and bounds of what the moves put together.
use Rattle.std.specs.Prelude.{◌≡◌, List, ℕ, ◌+◌, length, get_or}
use Rattle.std.proofs.Common.{◌∙◌, arith, length-append}
use Rattle.words.specs.Bounded.{Below}
use Rattle.words.specs.BoundedLaws.{below_append, below_zeros}
use Rattle.words.specs.LittleEndian.{words_to_bytes}
use Rattle.words.specs.LittleEndianLaws.{length-words_to_bytes, below-words_to_bytes}
use Rattle.words.specs.TabLaws.{length-tab}
use Rattle.worksheet.specs.SharedList.{SharedList}
use Rattle.stages.specs.Moves.{four, with_public}

module _ (w : SharedList) (public : List ℕ) where
  pub length-with_public : length (with_public w public).s0 ≡ 32 + length public
  length-with_public =
      length-append (words_to_bytes 8 (four w.s0)) public
      ∙ omega (arith, length-words_to_bytes 8 (four w.s0), length-tab 4 (λ i. get_or w.s0 i 0))

  pub below_with_public0 : Below 256 public → Below 256 (with_public w public).s0
  below_with_public0 b = below_append (words_to_bytes 8 (four w.s0)) (below-words_to_bytes 8 (four w.s0)) b

  pub below_with_public1 : Below 256 (with_public w public).s1
  below_with_public1 =
      below_append (words_to_bytes 8 (four w.s1)) (below-words_to_bytes 8 (four w.s1))
      (below_zeros (length public) (omega arith))
