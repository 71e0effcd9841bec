-- The loop is the definition's own iteration of round, and what it reads in the table is each round's constant.
use native.Mathlib.Omega.{arith}
use Rattle.words.specs.IterateLaws.{reached_start, reached_turn, reached_end}
use Rattle.keccak_constants.specs.RoundConstantLaws.{entry_constant}
use Rattle.keccak.specs.KeccakP.{keccak_p}
use Rattle.keccak.proofs.permute.Goals as goal

pub loop-k-init : goal.loop-k-init
loop-k-init c = reached_start

pub loop-k-preserved : goal.loop-k-preserved
loop-k-preserved c =
    let i = c.loop-k.k-index in
    let h = c.loop-k-test.true in
    reached_turn c.loop-k.invariant h (c.round-t.ensures i (entry_constant c.round_constants-k-items.ensures i h))

pub returns : goal.returns
unfolding keccak_p
returns c = reached_end c.loop-k.invariant (omega arith)
