-- Turn i writes the eight bytes of word i behind those of the words before it.
use mathlib.Core.Path.{◌≡◌}
use lib.ListN.{length, get_or}
use Rattle.words.specs.Numeral.{digits}
use Rattle.slices.proofs.Concatenated.{Concatenated}
use Rattle.masked_fips202.proofs.shared_input.words_to_bytes.Given as goal

-- i words written
abbrev pub invariant-loop-i : goal.invariant-loop-i
invariant-loop-i l =
    (l.i-end ≡ length l.w)
    × Concatenated 8 (length l.w) (λ i. digits 256 8 (get_or l.w i 0)) l.initial.out l.i l.out
