-- Turn by turn one word of z becomes its xor with the mask; the others are still as they were.
use mathlib.Core.Path.{◌≡◌}
use lib.ListN.{length, get_or}
use Rattle.words.specs.Word.{xor}
use Rattle.words.specs.Fill.{Replaced}
use Rattle.split_key_refresh.proofs.xor_words.Given as goal

-- i words done
abbrev pub invariant-loop-i : goal.invariant-loop-i
invariant-loop-i l =
    (l.i-end ≡ length l.initial.z)
    × Replaced (length l.initial.z) (λ k. xor (get_or l.initial.z k 0) (get_or l.masks k 0)) 0 l.initial.z l.i l.z
