-- The loop is the definition's own iteration of round, and what it reads in the table is each round's constant.
use Rattle.words.specs.IterateLaws.{Reached}
use Rattle.keccak.specs.KeccakP.{round}
use Rattle.keccak.proofs.permute.Given as goal

-- so many rounds done, from the lanes of s to those of t
abbrev pub invariant-loop-k : goal.invariant-loop-k
invariant-loop-k l = Reached 24 round l.initial.t.lanes l.k-index l.t.lanes
